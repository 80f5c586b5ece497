-- There is room for what waits: at a port each line is snooped, and given up, by one at a time, and each such line is known.
use Rattle.std.specs.List.{AllByRecursion, IsDistinct, list_any}
use Rattle.std.proofs.Common.{◌≡◌, ℕ, suc, ◌+◌, ◌≤◌, ◌<◌, true, false, ◌||◌, nat_eq, List, [], ◌∷◌, length, map, drop, Option, Some, None, slice_get, refl, sym, ap, subst, ◌∙◌, inl, inr, arith}
use Rattle.std.specs.Cmp.{nat_eq_equiv}
use Rattle.std.proofs.lemmas.Bool.{eqb-true, ne_eqb, or_cases}
use Rattle.std.proofs.lemmas.List.{length-map}
use Rattle.std.proofs.lemmas.Map.Keys.{IsDistinct-cons}
use Rattle.std.proofs.lemmas.Map.Made.{length-le_from_is_member}
use Rattle.ace_model.proofs.General.Lists.{slice_get-drop}
use Rattle.ace_portck.proofs.LineMaps.{known-listed}
use Rattle.ace_filter.proofs.Terms.{LineTurn, turns_from, Trace, is_known, known_lines}

abbrev lines_of : ℕ → List (Option ℕ) → List ℕ
lines_of n xs = map (λ (t : LineTurn). t.line) (turns_from n xs)

-- a line of the queue is among these
member : (n : ℕ) (xs : List (Option ℕ)) (l : ℕ) → list_any (nat_eq l) (lines_of n xs) ≡ true → (k : ℕ) × (slice_get xs k ≡ Some (Some l))
member n [] l there = cc
member n (None ∷ xs) l there = let r = member (n + 1) xs l there in (suc r.0, r.1)
member n (Some m ∷ xs) l there =
    elim (or_cases (nat_eq l m) (list_any (nat_eq l) (lines_of (n + 1) xs)) there) [
      | inl here ↦ (0, ap (λ v. Some (Some v)) (sym (eqb-true l m here)))
      | inr later ↦ let r = member (n + 1) xs l later in (suc r.0, r.1)
    ]

absent : (n : ℕ) (xs : List (Option ℕ)) (l : ℕ) → ((k : ℕ) → slice_get xs k ≡ Some (Some l) → ⊥) → AllByRecursion (λ m. nat_eq l m ≡ false) (lines_of n xs)
absent n [] l none = tt
absent n (None ∷ xs) l none = absent (n + 1) xs l (λ k is. none (suc k) is)
absent n (Some m ∷ xs) l none =
    (ne_eqb l m (λ same. none 0 (ap (λ v. Some (Some v)) (sym same))), absent (n + 1) xs l (λ k is. none (suc k) is))

distinct : (n : ℕ) (xs : List (Option ℕ)) → ((i j l : ℕ) → slice_get xs i ≡ Some (Some l) → slice_get xs j ≡ Some (Some l) → i ≡ j)
    → IsDistinct nat_eq (lines_of n xs)
unfolding IsDistinct
distinct n [] once = tt
distinct n (None ∷ xs) once = distinct (n + 1) xs (λ i j l x y. let same = once (suc i) (suc j) l x y in omega (arith, same))
distinct n (Some m ∷ xs) once =
    IsDistinct-cons nat_eq m (lines_of (n + 1) xs) (absent (n + 1) xs m (λ k is. let same = once 0 (suc k) m refl is in omega (arith, same)))
    (distinct (n + 1) xs (λ i j l x y. let same = once (suc i) (suc j) l x y in omega (arith, same)))

-- What there is to know of the lines that wait, where one more begins.
pub record AreApart (past : Trace) (all : List (Option ℕ)) (done line : ℕ) : Type 0 where
  pub once : (m n l : ℕ) → done ≤ m → done ≤ n → slice_get all m ≡ Some (Some l) → slice_get all n ≡ Some (Some l) → m ≡ n
  pub known : (n l : ℕ) → done ≤ n → slice_get all n ≡ Some (Some l) → is_known past l ≡ true
  pub fresh : (n : ℕ) → done ≤ n → slice_get all n ≡ Some (Some line) → ⊥
  pub line_known : is_known past line ≡ true

-- so fewer wait than lines are known
pub few-wait : (past : Trace) (all : List (Option ℕ)) (done line : ℕ) → AreApart past all done line
    → length (turns_from done (drop done all)) < length (known_lines past)
few-wait past all done line a =
    let within : length (line ∷ lines_of done (drop done all)) ≤ length (known_lines past) = length-le_from_is_member nat_eq_equiv
    (line ∷ lines_of done (drop done all)) (known_lines past)
    (IsDistinct-cons nat_eq line (lines_of done (drop done all)) (absent done (drop done all) line (λ k is. a.fresh (done + k) (omega arith) (at k line is)))
    (distinct done (drop done all) (λ i j l x y. let same = a.once (done + i) (done + j) l (omega arith) (omega arith)
    (at i l x) (at j l y) in omega (arith, same))))
    (λ q one. known-listed past q ∙ listed q one) in
    let long = length-map (turns_from done (drop done all)) (λ (t : LineTurn). t.line) in
    omega (arith, within, long)
  where
    at : (k l : ℕ) → slice_get (drop done all) k ≡ Some (Some l) → slice_get all (done + k) ≡ Some (Some l)
    at k l is = sym (slice_get-drop all done k (done + k) refl) ∙ is

    listed : (q : ℕ) → (nat_eq q line || list_any (nat_eq q) (lines_of done (drop done all))) ≡ true → is_known past q ≡ true
    listed q one =
        elim (or_cases (nat_eq q line) _ one) [
          | inl here ↦ subst (λ k. is_known past k ≡ true) (sym (eqb-true q line here)) a.line_known
          | inr there ↦ let r = member done (drop done all) q there in a.known (done + r.0) q (omega arith) (at r.0 q r.1)
        ]
