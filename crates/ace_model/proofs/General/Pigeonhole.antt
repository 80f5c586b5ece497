-- The pigeonhole: where the elements of a list have numbers below n, and no two have the same, there are at most n of them.
use Rattle.std.specs.List.{All, AllPairs, AllByRecursion, list_any, IsDistinct}
use Rattle.std.proofs.Common.{◌≡◌, ◌≢◌, ℕ, suc, ◌<◌, ◌≤◌, true, nat_eq, List, [], ◌∷◌, ◌++◌, length, map, false, sym, subst, inl, inr, arith, length-append}
use Rattle.std.proofs.lemmas.Bool.{or_cases, eqb-true, ne_eqb}
use Rattle.std.proofs.lemmas.List.{length-map}
use Rattle.std.proofs.lemmas.List.Elements.{All-head, All-tail, All-push}
use Rattle.std.proofs.lemmas.List.Quantifiers.{all_pairs_push}
use Rattle.std.proofs.lemmas.Map.Keys.{IsDistinct-cons}
use Rattle.std.proofs.lemmas.Map.Steps.{length-le_from_distinct_below}

-- no two elements have one number
abbrev pub AreApart : {A : Type 0} → (A → ℕ) → List A → Type 0
AreApart number xs = AllPairs (λ x y. number x ≢ number y) xs

-- each element has a number below n
abbrev pub AreBelow : {A : Type 0} → (A → ℕ) → ℕ → List A → Type 0
AreBelow number n xs = All (λ x. number x < n) xs

other_numbers : {A : Type 0} → (number : A → ℕ) (x : A) (xs : List A) → All (λ y. number x ≢ number y) xs
    → AllByRecursion (λ k. nat_eq (number x) k ≡ false) (map number xs)
other_numbers number x [] all = tt
other_numbers number x (y ∷ ys) all = (
  ne_eqb (number x) (number y) (All-head (λ z. number x ≢ number z) y ys all),
  other_numbers number x ys (All-tail (λ z. number x ≢ number z) y ys all),
)

apart-distinct : {A : Type 0} → (number : A → ℕ) (xs : List A) → AreApart number xs → IsDistinct nat_eq (map number xs)
unfolding IsDistinct
apart-distinct number [] apart = tt
apart-distinct number (x ∷ xs) apart =
    IsDistinct-cons nat_eq (number x) (map number xs)
    (other_numbers number x xs (λ k d low. apart 0 (suc k) d (omega arith) (omega arith)))
    (apart-distinct number xs (λ i j d low within. apart (suc i) (suc j) d (omega arith) (omega arith)))

below-member : {A : Type 0} → (number : A → ℕ) (n : ℕ) (xs : List A) → AreBelow number n xs → (q : ℕ) → list_any (nat_eq q) (map number xs) ≡ true → q < n
below-member number n [] below q there = cc
below-member number n (x ∷ xs) below q there =
    elim (or_cases (nat_eq q (number x)) _ there) [
      | inl here ↦ subst (λ k. k < n) (sym (eqb-true q (number x) here)) (All-head (λ y. number y < n) x xs below)
      | inr later ↦ below-member number n xs (All-tail (λ y. number y < n) x xs below) q later
    ]

pub few_apart : {A : Type 0} → (number : A → ℕ) (n : ℕ) (xs : List A) → AreApart number xs → AreBelow number n xs → length xs ≤ n
few_apart number n xs apart below =
    subst (λ k. k ≤ n) (length-map xs number)
    (length-le_from_distinct_below (map number xs) n (apart-distinct number xs apart) (below-member number n xs below))

-- so there is room for one more that is apart from the others, and below n
pub room_for_one : {A : Type 0} → (number : A → ℕ) (n : ℕ) (xs : List A) (y : A) → AreApart number xs → AreBelow number n xs
    → All (λ x. number x ≢ number y) xs → number y < n → length xs < n
room_for_one number n xs y apart below other low =
    let more = few_apart number n (xs ++ y ∷ [])
    (all_pairs_push (λ x z. number x ≢ number z) xs y apart other)
    (All-push (λ x. number x < n) xs y below low) in
    let long = length-append xs (y ∷ []) in
    omega arith
