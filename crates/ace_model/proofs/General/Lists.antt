-- Lists: one more element at the end, a list that a longer one begins with, and counts in both.
use Rattle.std.specs.List.{All, flat_map, list_all, list_any}
use Rattle.std.proofs.Common.{◌≡◌, le_refl, ◌⊎◌, ℕ, zero, suc, List, [], ◌∷◌, ◌++◌, length, ◌<◌, drop, subst, Option, Some, None, slice_get, refl, sym, ◌∙◌, arith, inl, inr, ◌+◌, ◌≤◌, Bool, true, cond, take, count_by, ap, append_assoc, length-append}
use Rattle.std.proofs.lemmas.Bool.{cases_eq, or_left, or_right}
use Rattle.ace_model.proofs.Terms.{more}
use Rattle.std.proofs.Math.Seq.{take-length}
use Rattle.std.proofs.lemmas.List.{append-nil, length-take, take-append-drop, take-append-le}
use Rattle.std.proofs.lemmas.List.Concat.{flat_map-append}
use Rattle.std.proofs.lemmas.Option.{slice_get_within, get_or_from_slice_get}
use Rattle.std.proofs.lemmas.List.Elements.{All-get_or, All-head, All-tail, All-take}
use Rattle.std.proofs.lemmas.List.Folds.{list_any-append}
use Rattle.std.proofs.lemmas.List.Sums.{AllPass-from_list_all, sum_by-cons, sum_by-append}
use Rattle.ace_model.proofs.General.Options.{Some-injective}

-- the place behind the last element
pub slice_get-at_end : {A : Type 0} → (xs : List A) (k : ℕ) (y : A) → k ≡ length xs → slice_get (xs ++ y ∷ []) k ≡ Some y
slice_get-at_end [] zero y e = refl
slice_get-at_end [] (suc k) y e = cc
slice_get-at_end (x ∷ xs) zero y e = absurd (omega arith)
slice_get-at_end (x ∷ xs) (suc k) y e = slice_get-at_end xs k y (omega arith)

-- any other place
pub slice_get-not_at_end : {A : Type 0} → (xs : List A) (k : ℕ) (y : A) → (k ≡ length xs → ⊥) → slice_get (xs ++ y ∷ []) k ≡ slice_get xs k
slice_get-not_at_end [] zero y e = absurd (e refl)
slice_get-not_at_end [] (suc k) y e = refl
slice_get-not_at_end (x ∷ xs) zero y e = refl
slice_get-not_at_end (x ∷ xs) (suc k) y e = slice_get-not_at_end xs k y (λ q. e (omega arith))

-- an element of the longer list was there, or is the new one
pub slice_get-more : {A : Type 0} → (xs : List A) (new : Option A) (k : ℕ) (z : A) → slice_get (more xs new) k ≡ Some z → (slice_get xs k ≡ Some z) ⊎ ((k ≡ length xs) × (new ≡ Some z))
slice_get-more xs None k z e = inl e
slice_get-more xs (Some y) k z e =
    elim (cases_eq k (length xs)) [
      | inl at ↦ inr (at, sym (slice_get-at_end xs k y at) ∙ e)
      | inr off ↦ inl (sym (slice_get-not_at_end xs k y off) ∙ e)
    ]

-- the second list begins with the first
pub record IsStart {A : Type 0} (xs ys : List A) : Type 0 where
  pub rest : List A
  pub joined : xs ++ rest ≡ ys

pub start-self : {A : Type 0} → (xs : List A) → IsStart xs xs
start-self xs = record { rest = []; joined = append-nil xs }

pub start-trans : {A : Type 0} → (xs ys zs : List A) → IsStart xs ys → IsStart ys zs → IsStart xs zs
start-trans xs ys zs s t = record {
  rest = s.rest ++ t.rest;
  joined = sym (append_assoc xs s.rest t.rest) ∙ ap (λ l. l ++ t.rest) s.joined ∙ t.joined;
}

pub start-more : {A : Type 0} → (xs : List A) (new : Option A) → IsStart xs (more xs new)
start-more xs None = start-self xs
start-more xs (Some x) = record { rest = x ∷ []; joined = refl }

pub start-append : {A : Type 0} → (xs ys : List A) → IsStart xs (xs ++ ys)
start-append xs ys = record { rest = ys; joined = refl }

pub start-flat_map : {A B : Type 0} → (f : A → List B) (xs ys : List A) → IsStart xs ys → IsStart (flat_map f xs) (flat_map f ys)
start-flat_map f xs ys s = record { rest = flat_map f s.rest; joined = sym (flat_map-append f xs s.rest) ∙ ap (flat_map f) s.joined }

pub start-take : {A : Type 0} → (n : ℕ) (xs : List A) → IsStart (take n xs) xs
start-take n xs = record { rest = drop n xs; joined = take-append-drop n xs }

-- with the next element of the second list too
pub start-next : {A : Type 0} → (xs ys : List A) (y : A) → IsStart xs ys → slice_get ys (length xs) ≡ Some y → IsStart (xs ++ y ∷ []) ys
start-next xs ys y s there = subst (IsStart (xs ++ y ∷ [])) s.joined (next xs s.rest (rw (← s.joined) at there))
  where
    next : {A : Type 0} {y : A} → (xs rest : List A) → slice_get (xs ++ rest) (length xs) ≡ Some y → IsStart (xs ++ y ∷ []) (xs ++ rest)
    next [] [] e = cc
    next [] (z ∷ rest) e = record { rest = rest; joined = ap (λ v. v ∷ rest) (sym (Some-injective z _ e)) }
    next (x ∷ xs) rest e = let n = next xs rest e in record { rest = n.rest; joined = ap (λ l. x ∷ l) n.joined }

-- it is the first elements of the second list
pub start-is : {A : Type 0} → (xs ys : List A) → IsStart xs ys → take (length xs) ys ≡ xs
start-is xs ys s = ap (take (length xs)) (sym s.joined) ∙ take-append-le (length xs) xs s.rest (le_refl (length xs)) ∙ take-length xs

-- of two lists that a third begins with, the shorter begins the longer
pub start-both : {A : Type 0} → (xs ys zs : List A) → IsStart xs zs → IsStart ys zs → length xs ≤ length ys → IsStart xs ys
start-both xs ys zs s t le =
    let same : take (length xs) ys ≡ xs = sym (take-append-le (length xs) ys t.rest le) ∙ ap (take (length xs)) t.joined ∙ start-is xs zs s in
    subst (λ l. IsStart l ys) same (start-take (length xs) ys)

pub start-length : {A : Type 0} → (xs ys : List A) → IsStart xs ys → length xs ≤ length ys
start-length xs ys s = let e = ap length s.joined in let l = length-append xs s.rest in omega arith

-- the first elements of the longer list, as many or more
pub start-take-more : {A : Type 0} → (xs ys : List A) (n m : ℕ) → IsStart xs ys → n ≤ m → IsStart (take n xs) (take m ys)
start-take-more xs ys n m s le =
    let long = start-length xs ys s in
    let a = length-take n xs in
    let b = length-take m ys in
    start-both (take n xs) (take m ys) ys (start-trans (take n xs) xs ys (start-take n xs) s) (start-take m ys) (omega arith)

-- what holds of all of the longer list, and what holds of some of the shorter
pub start-all : {A : Type 0} → (P : A → Type 0) (xs ys : List A) → IsStart xs ys → All P ys → All P xs
start-all P xs ys s all = subst (All P) (start-is xs ys s) (All-take P (length xs) ys all)

pub any-left : {A : Type 0} → (test : A → Bool) (xs ys : List A) → list_any test xs ≡ true → list_any test (xs ++ ys) ≡ true
any-left test xs ys any = list_any-append test xs ys ∙ or_left (list_any test xs) (list_any test ys) any

pub any-right : {A : Type 0} → (test : A → Bool) (xs ys : List A) → list_any test ys ≡ true → list_any test (xs ++ ys) ≡ true
any-right test xs ys any = list_any-append test xs ys ∙ or_right (list_any test xs) (list_any test ys) any

pub start-any : {A : Type 0} → (test : A → Bool) (xs ys : List A) → IsStart xs ys → list_any test xs ≡ true → list_any test ys ≡ true
start-any test xs ys s any = subst (λ l. list_any test l ≡ true) s.joined (any-left test xs s.rest any)

-- an element of the first list stands at the same place of the second
pub slice_get-append : {A : Type 0} → (xs ys : List A) (k : ℕ) (x : A) → slice_get xs k ≡ Some x → slice_get (xs ++ ys) k ≡ Some x
slice_get-append [] ys k x e = cc
slice_get-append (z ∷ xs) ys zero x e = e
slice_get-append (z ∷ xs) ys (suc k) x e = slice_get-append xs ys k x e

pub slice_get-start : {A : Type 0} → (xs ys : List A) (k : ℕ) (x : A) → IsStart xs ys → slice_get xs k ≡ Some x → slice_get ys k ≡ Some x
slice_get-start xs ys k x s e = sym (ap (λ l. slice_get l k) s.joined) ∙ slice_get-append xs s.rest k x e

pub slice_get-grown : {A : Type 0} → (xs : List A) (new : Option A) (k : ℕ) (z : A) → slice_get xs k ≡ Some z → slice_get (more xs new) k ≡ Some z
slice_get-grown xs new k z e = slice_get-start xs (more xs new) k z (start-more xs new) e

-- a place of the list from its n-th element on, and of its first n elements
pub slice_get-drop : {A : Type 0} → (xs : List A) (n k m : ℕ) → m ≡ n + k → slice_get (drop n xs) k ≡ slice_get xs m
slice_get-drop xs zero k m at = ap (slice_get xs) (omega arith)
slice_get-drop [] (suc n) k m at = refl
slice_get-drop (x ∷ xs) (suc n) k zero at = absurd (omega arith)
slice_get-drop (x ∷ xs) (suc n) k (suc m) at = slice_get-drop xs n k m (omega arith)

pub slice_get-take : {A : Type 0} → (xs : List A) (n k : ℕ) → k < n → slice_get (take n xs) k ≡ slice_get xs k
slice_get-take xs zero k low = absurd (omega arith)
slice_get-take [] (suc n) k low = refl
slice_get-take (x ∷ xs) (suc n) zero low = refl
slice_get-take (x ∷ xs) (suc n) (suc k) low = slice_get-take xs n k (omega arith)

pub slice_get-within_take : {A : Type 0} → (xs : List A) (n k : ℕ) (x : A) → slice_get (take n xs) k ≡ Some x → k < n
slice_get-within_take xs n k x e =
    let low = slice_get_within (take n xs) k x e in let long = length-take n xs in omega arith

-- what holds of all elements holds of each, as of those that pass a test
pub slice_get-all : {A : Type 0} → (P : A → Type 0) (xs : List A) (k : ℕ) (x : A) → All P xs → slice_get xs k ≡ Some x → P x
slice_get-all P xs k x all there = subst P (get_or_from_slice_get xs k x x there) (All-get_or P xs k x (slice_get_within xs k x there) all)

pub list_all-at : {A : Type 0} → (test : A → Bool) (xs : List A) (k : ℕ) (x : A) → list_all test xs ≡ true → slice_get xs k ≡ Some x → test x ≡ true
list_all-at test xs k x all there = slice_get-all (λ y. test y ≡ true) xs k x (AllPass-from_list_all test xs all) there

-- a count with one more element in front
pub count_by-cons : {A : Type 0} → (test : A → Bool) (x : A) (xs : List A) → count_by test (x ∷ xs) ≡ cond (test x) 1 0 + count_by test xs
count_by-cons test x xs = sum_by-cons (λ y. cond (test y) 1 0) x xs

-- a longer list has at least as many
pub count_by-start : {A : Type 0} → (test : A → Bool) (xs ys : List A) → IsStart xs ys → count_by test xs ≤ count_by test ys
count_by-start test xs ys s =
    let e = ap (count_by test) s.joined in
    let both = sum_by-append (λ x. cond {A = ℕ} (test x) 1 0) xs s.rest in
    omega arith

-- tests that agree on all elements count as many
pub count_by-agree : {A : Type 0} → (test other : A → Bool) (xs : List A) → All (λ x. test x ≡ other x) xs → count_by test xs ≡ count_by other xs
count_by-agree test other [] all = refl
count_by-agree test other (x ∷ xs) all =
    let here : test x ≡ other x = All-head (λ y. test y ≡ other y) x xs all in
    let rest = count_by-agree test other xs (All-tail (λ y. test y ≡ other y) x xs all) in
    count_by-cons test x xs ∙ rw (here, rest) (sym (count_by-cons other x xs))
