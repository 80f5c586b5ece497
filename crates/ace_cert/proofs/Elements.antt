-- Elements of lists by their places, what a list contains, and a list whose numbers increase.
use Rattle.std.proofs.Common.{◌≡◌, inl, inr, ℕ, suc, zero, ◌<◌, Bool, true, false, List, [], ◌∷◌, length, map, slice_get, Option, Some, None, option_map, refl, sym, ap, subst, ◌∙◌, arith}
use Rattle.std.specs.Prelude.{find}
use Rattle.std.specs.List.{All, Contains}
use Rattle.std.specs.List.Sorted.{IsStrictlyIncreasing}
use Rattle.std.proofs.lemmas.Bool.{cases_eq, cases_lt}
use Rattle.std.proofs.lemmas.List.Kept.{AllPairs-from_increasing}
use Rattle.std.proofs.lemmas.Option.{slice_get-map, slice_get_within, get_or_from_slice_get}

-- an element within the list
pub element-at : {A : Type 0} → (xs : List A) (k : ℕ) → k < length xs → (x : A) × (slice_get xs k ≡ Some x)
element-at [] k low = absurd (omega arith)
element-at (x ∷ xs) zero low = (x, refl)
element-at (x ∷ xs) (suc k) low = element-at xs k (omega arith)

-- what holds of each element by its place holds of all
pub all-from_places : {A : Type 0} → (P : A → Type 0) (xs : List A) → ((k : ℕ) (x : A) → slice_get xs k ≡ Some x → P x) → All P xs
all-from_places P xs each = λ k d low.
    let s = element-at xs k low in
    subst P (sym (get_or_from_slice_get xs k s.0 d s.1)) (each k s.0 s.1)

-- the element that a list contains, by its place
pub contains-at : {A B : Type 0} → (f : A → B) (xs : List A) (y : B) → Contains (map f xs) y → (k : ℕ) × ((x : A) × ((slice_get xs k ≡ Some x) × (f x ≡ y)))
contains-at {A = A} f xs y c =
    let s = element-at (map f xs) c.0 c.1 in
    let is = slice_get-map f xs c.0 in
    let value = get_or_from_slice_get (map f xs) c.0 s.0 y s.1 in
    found (slice_get xs c.0) refl (sym is ∙ s.1 ∙ ap (λ v. Some v) (sym value ∙ c.2))
  where
    found : (o : Option A) → slice_get xs c.0 ≡ o → option_map f o ≡ Some y → (k : ℕ) × ((x : A) × ((slice_get xs k ≡ Some x) × (f x ≡ y)))
    found None there e = cc
    found (Some x) there e = (c.0, (x, (there, cc)))

pub contains-from : {A B : Type 0} → (f : A → B) (xs : List A) (k : ℕ) (x : A) → slice_get xs k ≡ Some x → Contains (map f xs) (f x)
contains-from f xs k x there =
    let is : slice_get (map f xs) k ≡ Some (f x) = slice_get-map f xs k ∙ ap (option_map f) there in
    (k, slice_get_within (map f xs) k (f x) is, get_or_from_slice_get (map f xs) k (f x) (f x) is)

-- an element before another one has the lower number
pub rises : {A : Type 0} → (f : A → ℕ) (xs : List A) → IsStrictlyIncreasing (map f xs) → (i j : ℕ) (x y : A) → i < j → slice_get xs i ≡ Some x → slice_get xs j ≡ Some y → f x < f y
rises f xs up i j x y less at_i at_j =
    let is_i : slice_get (map f xs) i ≡ Some (f x) = slice_get-map f xs i ∙ ap (option_map f) at_i in
    let is_j : slice_get (map f xs) j ≡ Some (f y) = slice_get-map f xs j ∙ ap (option_map f) at_j in
    let pair = AllPairs-from_increasing (map f xs) up i j 0 less (slice_get_within (map f xs) j (f y) is_j) in
    let value_i = get_or_from_slice_get (map f xs) i (f x) 0 is_i in
    let value_j = get_or_from_slice_get (map f xs) j (f y) 0 is_j in
    omega arith

-- elements with numbers in order stand in order
pub place-below : {A : Type 0} → (f : A → ℕ) (xs : List A) → IsStrictlyIncreasing (map f xs) → (i j : ℕ) (x y : A) → f x < f y → slice_get xs i ≡ Some x → slice_get xs j ≡ Some y → i < j
place-below f xs up i j x y less at_i at_j =
    elim (cases_lt i j) [
      | inl low ↦ low
      | inr high ↦ elim (cases_eq j i) [
        | inl same ↦
            let one : Some x ≡ Some y = sym at_i ∙ ap (slice_get xs) (sym same) ∙ at_j in
            let is : x ≡ y = cc in
            let equal : f x ≡ f y = ap f is in
            absurd (omega arith)
        | inr apart ↦
            let back = rises f xs up j i y x (omega (arith, apart)) at_j at_i in
            absurd (omega arith)
      ]
    ]

-- the first element that passes, where those before it don't
pub find-at : {A : Type 0} → (test : A → Bool) (xs : List A) (k : ℕ) (x : A) → slice_get xs k ≡ Some x → test x ≡ true
    → ((j : ℕ) (y : A) → j < k → slice_get xs j ≡ Some y → test y ≡ false) → find test xs ≡ Some x
find-at test [] k x there t before = cc
find-at test (z ∷ xs) zero x there t before =
    let one : z ≡ x = cc in
    let now : test z ≡ true = ap test one ∙ t in
    rw now there
find-at test (z ∷ xs) (suc k) x there t before =
    let no : test z ≡ false = before 0 z (omega arith) refl in
    rw no (find-at test xs k x there t (λ j y low. before (suc j) y (omega arith)))
