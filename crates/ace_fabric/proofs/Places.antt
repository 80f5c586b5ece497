-- Places of a list after a write, and engines of a list that hear one after the other.
use Rattle.std.proofs.Common.{◌≡◌, ◌≢◌, ◌+◌, ℕ, zero, suc, List, [], ◌∷◌, Some, slice_get, ◌⊎◌, inl, inr, refl, arith, ap, sym, subst, ◌∙◌}
use Rattle.std.proofs.Math.ListN.{set}
use Rattle.std.proofs.lemmas.List.{length-set}
use Rattle.ace_event.specs.declared.event.Event.{Event}
use Rattle.ace_model.proofs.General.Options.{Some-injective}
use Rattle.ace_engine.specs.declared.engine.Engine.{Ghosts}
use Rattle.ace_fabric.specs.Parts.{HasHeard, HaveHeard}

-- what is at a place after a write: what was written, or what was there
pub set-at : {A : Type 0} → (xs : List A) (i k : ℕ) (y m : A) → slice_get (set xs k y) i ≡ Some m → ((i ≡ k) × (m ≡ y)) ⊎ ((i ≢ k) × (slice_get xs i ≡ Some m))
set-at [] i k y m h = cc
set-at (x ∷ xs) zero zero y m h = inl (refl, cc)
set-at (x ∷ xs) zero (suc k) y m h = inr ((λ e. absurd (omega arith)), h)
set-at (x ∷ xs) (suc i) zero y m h = inr ((λ e. absurd (omega arith)), h)
set-at (x ∷ xs) (suc i) (suc k) y m h = elim (set-at xs i k y m h) [ inl p ↦ inl (ap suc p.0, p.1) | inr p ↦ inr ((λ e. p.0 (omega arith)), p.1) ]

-- another place
pub set-off : {A : Type 0} → (xs : List A) (i k : ℕ) (y : A) → i ≢ k → slice_get (set xs k y) i ≡ slice_get xs i
set-off [] i k y h = refl
set-off (x ∷ xs) zero zero y h = absurd (h refl)
set-off (x ∷ xs) zero (suc k) y h = refl
set-off (x ∷ xs) (suc i) zero y h = refl
set-off (x ∷ xs) (suc i) (suc k) y h = set-off xs i k y (λ e. h (ap suc e))

-- the place itself
pub set-own : {A : Type 0} → (xs : List A) (k : ℕ) (x y : A) → slice_get xs k ≡ Some x → slice_get (set xs k y) k ≡ Some y
set-own [] k x y h = cc
set-own (z ∷ xs) zero x y h = refl
set-own (z ∷ xs) (suc k) x y h = set-own xs k x y h

-- one more has heard
pub heard-more : {E : Type 0} → (g : Ghosts E) (burst : List Event) (but n : ℕ) (olds mids : List E) (x y : E) → HaveHeard g burst but n olds mids → slice_get mids n ≡ Some x
    → HasHeard g burst x y → n ≢ but → HaveHeard g burst but (n + 1) olds (set mids n y)
heard-more {E} g burst but n olds mids x y a at heard away = record {
  each = λ k u v gu gv below off. elim (set-at mids k n y v gv) [
    | inl here ↦
        let was : slice_get olds n ≡ Some x = sym (a.rest n (omega arith)) ∙ at in
        let eu : u ≡ x = Some-injective u x (sym gu ∙ ap (slice_get olds) here.0 ∙ was) in
        subst (λ (z : E). HasHeard g burst z v) (sym eu) (subst (HasHeard g burst x) (sym here.1) heard)
    | inr other ↦ a.each k u v gu other.1 (let apart = other.0 in omega arith) off
  ];
  rest = λ k high. set-off mids k n y (λ e. absurd (omega arith)) ∙ a.rest k (omega arith);
  same = set-off mids but n y (λ e. away (sym e)) ∙ a.same;
  len = length-set mids n y ∙ a.len;
}

-- the one that doesn't hear
pub heard-skip : {E : Type 0} → (g : Ghosts E) (burst : List Event) (but n : ℕ) (olds mids : List E) → HaveHeard g burst but n olds mids → n ≡ but → HaveHeard g burst but (n + 1) olds mids
heard-skip g burst but n olds mids a here = record {
  each = λ k u v gu gv below off. a.each k u v gu gv (omega arith) off;
  rest = λ k high. a.rest k (omega arith);
  same = a.same;
  len = a.len;
}
