-- A test that passes for all elements of lists made of others.
use Rattle.std.proofs.Common.{◌≡◌, Bool, true, if◌then◌else◌, List, [], ◌∷◌, ◌++◌, map, refl, false}
use Rattle.std.specs.List.{list_all, flat_map}
use Rattle.std.proofs.lemmas.Bool.{and_parts, and_from}

pub all-append : {A : Type 0} → (test : A → Bool) (xs ys : List A) → list_all test xs ≡ true → list_all test ys ≡ true → list_all test (xs ++ ys) ≡ true
all-append test [] ys x y = y
all-append test (a ∷ xs) ys x y =
    let parts = and_parts (test a) (list_all test xs) x in and_from _ _ parts.0 (all-append test xs ys parts.1 y)

pub all-map : {A B : Type 0} → (test : B → Bool) (f : A → B) (xs : List A) → ((a : A) → test (f a) ≡ true) → list_all test (map f xs) ≡ true
all-map test f [] each = refl
all-map test f (a ∷ xs) each = and_from _ _ (each a) (all-map test f xs each)

-- what passes the one test passes the other
pub all-implied : {A : Type 0} → (test later : A → Bool) → ((a : A) → test a ≡ true → later a ≡ true) → (xs : List A) → list_all test xs ≡ true → list_all later xs ≡ true
all-implied test later each [] all = refl
all-implied test later each (a ∷ xs) all =
    let parts = and_parts (test a) (list_all test xs) all in and_from _ _ (each a parts.0) (all-implied test later each xs parts.1)

-- the function takes what passes the one test to what passes the other
pub all-mapped : {A B : Type 0} → (test : A → Bool) (later : B → Bool) (f : A → B) (xs : List A) → ((a : A) → test a ≡ true → later (f a) ≡ true)
    → list_all test xs ≡ true → list_all later (map f xs) ≡ true
all-mapped test later f [] each all = refl
all-mapped test later f (a ∷ xs) each all =
    let parts = and_parts (test a) (list_all test xs) all in and_from _ _ (each a parts.0) (all-mapped test later f xs each parts.1)

pub all-flat_map : {A B : Type 0} → (test : B → Bool) (f : A → List B) (xs : List A) → ((a : A) → list_all test (f a) ≡ true) → list_all test (flat_map f xs) ≡ true
all-flat_map test f [] each = refl
all-flat_map test f (a ∷ xs) each = all-append test (f a) (flat_map f xs) (each a) (all-flat_map test f xs each)

pub all-flat_mapped : {A B : Type 0} → (test : A → Bool) (later : B → Bool) (f : A → List B) (xs : List A) → ((a : A) → test a ≡ true → list_all later (f a) ≡ true)
    → list_all test xs ≡ true → list_all later (flat_map f xs) ≡ true
all-flat_mapped test later f [] each all = refl
all-flat_mapped test later f (a ∷ xs) each all =
    let parts = and_parts (test a) (list_all test xs) all in
    all-append later (f a) (flat_map f xs) (each a parts.0) (all-flat_mapped test later f xs each parts.1)

pub all-if : {A : Type 0} → (test : A → Bool) (b : Bool) (xs ys : List A) → list_all test xs ≡ true → list_all test ys ≡ true → list_all test (if b then xs else ys) ≡ true
all-if test true xs ys x y = x
all-if test false xs ys x y = y
