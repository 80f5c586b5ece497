-- Tests of the ports below a number: of each of them, of some of them, and the last that passes.
use Rattle.std.proofs.Common.{◌≡◌, ℕ, zero, suc, ◌<◌, Bool, true, false, Some, sym, subst, arith, inl, inr, is_some, refl, ap, ◌∙◌}
use Rattle.std.proofs.lemmas.Bool.{and_parts, or_parts, cases_Bool, cases_eq}
use Rattle.ace_model.proofs.Terms.{find, list_all, list_any, ports_below}
use Rattle.ace_model.proofs.General.Options.{Some-injective}

pub each_at : (n : ℕ) (test : ℕ → Bool) (r : ℕ) → list_all test (ports_below n) ≡ true → r < n → test r ≡ true
each_at zero test r e l = absurd (omega arith)
each_at (suc n) test r e l =
    let parts = and_parts (test n) (list_all test (ports_below n)) e in
    elim (cases_eq r n) [
      | inl same ↦ subst (λ k. test k ≡ true) (sym same) parts.0
      | inr other ↦ each_at n test r parts.1 (omega arith)
    ]

-- where no port passes the test, this one doesn't
pub none_at : (n : ℕ) (test : ℕ → Bool) (r : ℕ) → list_any test (ports_below n) ≡ false → r < n → test r ≡ false
none_at zero test r e l = absurd (omega arith)
none_at (suc n) test r e l =
    let parts = or_parts (test n) (list_any test (ports_below n)) e in
    elim (cases_eq r n) [
      | inl same ↦ subst (λ k. test k ≡ false) (sym same) parts.0
      | inr other ↦ none_at n test r parts.1 (omega arith)
    ]

pub found_passes : (n : ℕ) (test : ℕ → Bool) (r : ℕ) → find test (ports_below n) ≡ Some r → test r ≡ true
found_passes zero test r e = cc
found_passes (suc n) test r e =
    elim (cases_Bool (test n)) [
      | inl t ↦ let same : Some n ≡ Some r = rw t at e in subst (λ k. test k ≡ true) (Some-injective n r same) t
      | inr f ↦ found_passes n test r (rw f at e)
    ]

-- and where a port passes it, one is found
pub found_some : (n : ℕ) (test : ℕ → Bool) (r : ℕ) → test r ≡ true → r < n → is_some (find test (ports_below n)) ≡ true
found_some zero test r t l = absurd (omega arith)
found_some (suc n) test r t l =
    elim (cases_Bool (test n)) [
      | inl y ↦ rw y refl
      | inr f ↦ elim (cases_eq r n) [
        | inl same ↦ let bad : false ≡ true = sym f ∙ ap test (sym same) ∙ t in cc
        | inr apart ↦ rw f (found_some n test r t (omega arith))
      ]
    ]
