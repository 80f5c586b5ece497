-- A test of several parts holds exactly where each part does: of a value that may be there or not, and of each of a list.
use Rattle.std.proofs.Common.{◌≡◌, Bool, true, false, ◌&&◌, List, [], ◌∷◌, Option, Some, None, is_some, refl, ap, ◌∙◌, arith}
use Rattle.std.specs.List.{list_all}
use Rattle.ace_model.specs.Trace.{is_some_and, is_none_or}

-- every one of the Booleans is true
abbrev pub all : List Bool → Bool
all [] = true
all (b ∷ bs) = b && all bs

-- every one of the tests holds of the value
abbrev pub each_of : {A : Type 0} → List (A → Bool) → A → Bool
each_of [] x = true
each_of (test ∷ tests) x = test x && each_of tests x

-- every one of the tests holds of the value, if there is one
abbrev pub each_none_or : {A : Type 0} → Option A → List (A → Bool) → Bool
each_none_or o [] = true
each_none_or o (test ∷ tests) = is_none_or o test && each_none_or o tests

none_has_each : {A : Type 0} → (tests : List (A → Bool)) → true ≡ each_none_or None tests
none_has_each [] = refl
none_has_each (test ∷ tests) = none_has_each tests

some_has_each : {A : Type 0} → (x : A) (tests : List (A → Bool)) → each_of tests x ≡ each_none_or (Some x) tests
some_has_each x [] = refl
some_has_each x (test ∷ tests) = ap (λ b. test x && b) (some_has_each x tests)

pub parts_if_any : {A : Type 0} → (o : Option A) (whole : A → Bool) (tests : List (A → Bool)) → ((x : A) → whole x ≡ each_of tests x)
    → is_none_or o whole ≡ each_none_or o tests
parts_if_any None whole tests same = none_has_each tests
parts_if_any (Some x) whole tests same = same x ∙ some_has_each x tests

pub parts_of_some : {A : Type 0} → (o : Option A) (whole : A → Bool) (tests : List (A → Bool)) → ((x : A) → whole x ≡ each_of tests x)
    → is_some_and o whole ≡ (is_some o && each_none_or o tests)
parts_of_some None whole tests same = refl
parts_of_some (Some x) whole tests same = same x ∙ some_has_each x tests

pub alone : (b : Bool) → b ≡ (b && true)
alone true = refl
alone false = refl

pub all_of_three : {A : Type 0} → (a b c : A → Bool) (xs : List A)
    → list_all (λ x. a x && b x && c x) xs ≡ (list_all a xs && list_all b xs && list_all c xs)
all_of_three a b c [] = refl
all_of_three a b c (x ∷ xs) =
    ap (λ rest. (a x && b x && c x) && rest) (all_of_three a b c xs)
    ∙ regroup (a x) (b x) (c x) (list_all a xs) (list_all b xs) (list_all c xs)
  where
    regroup : (a b c d e f : Bool) → ((a && b && c) && (d && e && f)) ≡ ((a && d) && (b && e) && (c && f))
    regroup a b c d e f = grind arith
