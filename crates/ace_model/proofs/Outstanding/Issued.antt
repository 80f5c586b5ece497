-- The list of a trace's transactions.
use Rattle.std.specs.List.{AllByRecursion, find, list_any}
use Rattle.std.proofs.Common.{◌≡◌, ℕ, ◌<◌, Bool, true, false, ◌||◌, List, [], ◌∷◌, length, Option, Some, None, slice_get, refl, sym, ap, subst, ◌∙◌, inl, inr, arith, zero, suc}
use Rattle.std.proofs.lemmas.Bool.{cases_Bool}
use Rattle.std.proofs.lemmas.List.Folds.{list_any-append}
use Rattle.ace_model.proofs.Terms.{Transaction, Trace, is_some_and, more, issued, some_issued, transactions}
use Rattle.ace_model.proofs.General.Lists.{slice_get-at_end, slice_get-grown}
use Rattle.ace_model.proofs.Trace.Growth.{IsIssued, issued-cases, transaction-issued}
use Rattle.ace_model.proofs.Trace.Issued.{issued-place}
use Rattle.ace_model.proofs.Outstanding.Lists.{Rises, rises_more, all_from_places, all_implies}

swapped : (a b : Bool) → (a || b) ≡ (b || (a || false))
swapped true true = refl
swapped true false = refl
swapped false true = refl
swapped false false = refl

-- some transaction of the trace passes the test exactly where one of the list does
pub some_issued-any : (past : Trace) (test : Transaction → Bool) → some_issued past test ≡ list_any test (transactions past)
some_issued-any [] test = refl
some_issued-any (e ∷ past) test = by (issued (length past) e) (some_issued-any past test)
  where
    by : (o : Option Transaction) → some_issued past test ≡ list_any test (transactions past)
        → (is_some_and o test || some_issued past test) ≡ list_any test (more (transactions past) o)
    by None before = before
    by (Some x) before =
        swapped (test x) (some_issued past test)
        ∙ ap (λ b. b || (test x || false)) before
        ∙ sym (list_any-append test (transactions past) (x ∷ []))

-- each transaction of the list was issued
pub transactions-issued : (past : Trace) → AllByRecursion (IsIssued past) (transactions past)
transactions-issued past = all_from_places (IsIssued past) (transactions past) (transaction-issued past)

-- and what was issued has a place in the list
pub issued-place_in : (past : Trace) (x : Transaction) → IsIssued past x → (k : ℕ) × (slice_get (transactions past) k ≡ Some x)
issued-place_in [] x i = let b = i.before in absurd (omega arith)
issued-place_in (e ∷ past) x i =
    elim (issued-cases e past x i) [
      | inl new ↦ (length (transactions past), ap (λ o. slice_get (more (transactions past) o) (length (transactions past))) new ∙ slice_get-at_end (transactions past) _ x refl)
      | inr old ↦ let k = issued-place_in past x old in (k.0, slice_get-grown (transactions past) (issued (length past) e) k.0 x k.1)
    ]

-- what a look at a list finds, and where it finds nothing
pub find-some : {A : Type 0} → (test : A → Bool) (xs : List A) (x : A) → find test xs ≡ Some x → ((k : ℕ) × (slice_get xs k ≡ Some x)) × (test x ≡ true)
find-some test [] x e = cc
find-some test (y ∷ ys) x e =
    elim (cases_Bool (test y)) [
      | inl t ↦ let s : Some y ≡ Some x = rw t at e in let one : y ≡ x = cc in ((0, s), subst (λ v. test v ≡ true) one t)
      | inr f ↦ let r = find-some test ys x (rw f at e) in ((suc r.0.0, r.0.1), r.1)
    ]

pub find-none : {A : Type 0} → (test : A → Bool) (xs : List A) (k : ℕ) (x : A) → find test xs ≡ None → slice_get xs k ≡ Some x → test x ≡ false
find-none test [] k x e there = cc
find-none test (y ∷ ys) k x e there =
    elim (cases_Bool (test y)) [
      | inl t ↦ let s : Some y ≡ None = rw t at e in cc
      | inr f ↦ at k there f (λ j later. find-none test ys j x (rw f at e) later)
    ]
  where
    at : (k : ℕ) → slice_get (y ∷ ys) k ≡ Some x → test y ≡ false → ((j : ℕ) → slice_get ys j ≡ Some x → test x ≡ false) → test x ≡ false
    at zero there f rest = let one : y ≡ x = cc in subst (λ v. test v ≡ false) one f
    at (suc k) there f rest = rest k there

-- their places rise
pub places_rise : (past : Trace) → Rises (λ (x : Transaction). x.place) (transactions past)
places_rise [] = tt
places_rise (e ∷ past) = by (issued (length past) e) refl (places_rise past)
  where
    by : (o : Option Transaction) → issued (length past) e ≡ o → Rises (λ (x : Transaction). x.place) (transactions past)
        → Rises (λ (x : Transaction). x.place) (more (transactions past) o)
    by None new rises = rises
    by (Some y) new rises =
        let at = issued-place (length past) e y new in
        rises_more (λ (x : Transaction). x.place) (transactions past) y rises
        (all_implies (IsIssued past) (λ (x : Transaction). x.place < y.place) (transactions past) (λ x i. let b = i.before in omega (arith, b, at)) (transactions-issued past))
