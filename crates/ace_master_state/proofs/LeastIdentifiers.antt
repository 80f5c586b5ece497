-- The least identifier that passes a test.
use Rattle.std.proofs.Common.{◌≡◌, ℕ, zero, suc, ◌<◌, Bool, true, false, if◌then◌else◌, Some, None, inl, inr, refl, ap, subst, ◌∙◌, arith}
use Rattle.std.proofs.lemmas.Bool.{cases_eq}
use Rattle.ace_model.specs.Trace.{newer}
use Rattle.ace_runs.specs.Requests.{least_below}

-- none passes
pub least-none : (n : ℕ) (test : ℕ → Bool) → ((i : ℕ) → i < n → test i ≡ false) → least_below n test ≡ None
least-none zero test none = refl
least-none (suc n) test none =
    ap (λ o. newer o (if test n then Some n else None)) (least-none n test (λ i low. none i (omega (arith, low)))) ∙ ap (λ b. if b then Some n else None) (none n (omega arith))

-- it passes, and none before it does
pub least-at : (n m : ℕ) (test : ℕ → Bool) → ((i : ℕ) → i < n → test i ≡ false) → test n ≡ true → n < m → least_below m test ≡ Some n
least-at n zero test none t low = absurd (omega (arith, low))
least-at n (suc m) test none t low =
    elim (cases_eq n m) [
      | inl here ↦ subst (λ k. newer (least_below k test) (if test k then Some k else None) ≡ Some n) here (rw (least-none n test none, t) refl)
      | inr other ↦ ap (λ o. newer o (if test m then Some m else None)) (least-at n m test none t (omega (arith, low, other)))
    ]

-- tests that agree below a number find the same one
pub least-same : (n : ℕ) (one other : ℕ → Bool) → ((i : ℕ) → i < n → one i ≡ other i) → least_below n one ≡ least_below n other
least-same zero one other same = refl
least-same (suc n) one other same =
    ap (λ o. newer o (if one n then Some n else None)) (least-same n one other (λ i low. same i (omega (arith, low))))
    ∙ ap (λ b. newer (least_below n other) (if b then Some n else None)) (same n (omega arith))
