-- An identifier is found where one is free.
use Rattle.std.proofs.Common.{◌≡◌, ℕ, zero, suc, ◌<◌, Bool, true, if◌then◌else◌, Option, Some, None, inl, inr, refl, ap, subst, ◌∙◌, arith}
use Rattle.std.proofs.lemmas.Bool.{cases_eq}
use Rattle.ace_model.specs.Trace.{newer}
use Rattle.ace_model.proofs.General.Options.{newer-cases, some_where-is}
use Rattle.ace_runs.specs.Requests.{least_below}

-- a number below the bound that is found, and passes the test
pub record IsFound (n : ℕ) (test : ℕ → Bool) (o : Option ℕ) : Type 0 where
  pub number : ℕ
  pub is : o ≡ Some number
  pub low : number < n
  pub passes : test number ≡ true

found-newer : (n : ℕ) (test : ℕ → Bool) (new older : Option ℕ) → IsFound n test new → IsFound (suc n) test (newer new older)
found-newer n test new older f =
    let low = f.low in record { number = f.number; is = ap (λ o. newer o older) f.is; low = omega (arith, low); passes = f.passes }

-- what is found is below the bound and passes the test
pub least-low : (n : ℕ) (test : ℕ → Bool) (j : ℕ) → least_below n test ≡ Some j → (j < n) × (test j ≡ true)
least-low zero test j is = cc
least-low (suc n) test j is =
    elim (newer-cases (least_below n test) (if test n then Some n else None) j is) [
      | inl new ↦ let f = least-low n test j new in let low = f.0 in (omega (arith, low), f.1)
      | inr last ↦ let f = some_where-is test n j last in let here = f.0 in (omega (arith, here), f.1)
    ]

-- where a number below the bound passes the test, one is found
pub least-found : (n : ℕ) (test : ℕ → Bool) (k : ℕ) → k < n → test k ≡ true → IsFound n test (least_below n test)
least-found zero test k low t = absurd (omega (arith, low))
least-found (suc n) test k low t =
    elim (cases_eq k n) [
      | inr other ↦ found-newer n test (least_below n test) _ (least-found n test k (omega (arith, low, other)) t)
      | inl here ↦ by (least_below n test) refl (subst (λ j. test j ≡ true) here t)
    ]
  where
    by : (o : Option ℕ) → least_below n test ≡ o → test n ≡ true → IsFound (suc n) test (newer (least_below n test) (if test n then Some n else None))
    by None is t_n =
        record { number = n; is = ap (λ o. newer o (if test n then Some n else None)) is ∙ ap (λ b. if b then Some n else None) t_n; low = omega arith; passes = t_n }
    by (Some j) is t_n =
        let f = least-low n test j is in
        let low = f.0 in
        record { number = j; is = ap (λ o. newer o (if test n then Some n else None)) is; low = omega (arith, low); passes = f.1 }
