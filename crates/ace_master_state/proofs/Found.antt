-- A loop that looks for an element which passes a test.
use Rattle.std.specs.List.{list_any}
use Rattle.std.proofs.Common.{◌≡◌, ℕ, ◌+◌, ◌<◌, Bool, true, false, ◌||◌, List, length, take, refl, sym, ◌∙◌}
use Rattle.std.proofs.Math.ListN.{get_or}
use Rattle.std.proofs.lemmas.Bool.{or_right}
use Rattle.std.proofs.lemmas.List.Folds.{list_any_more}

-- the next element passes it
pub found-now : {X : Type 0} (test : X → Bool) (xs : List X) (i : ℕ) (d : X) → i < length xs → test (get_or xs i d) ≡ true → true ≡ list_any test (take (i + 1) xs)
found-now test xs i d low passes = sym (list_any_more test xs i d low ∙ or_right (list_any test (take i xs)) (test (get_or xs i d)) passes)

none-else : (a b : Bool) → b ≡ false → a ≡ (a || b)
none-else true b f = refl
none-else false b f = sym f

-- it doesn't
pub found-before : {X : Type 0} (test : X → Bool) (xs : List X) (i : ℕ) (d : X) → i < length xs → test (get_or xs i d) ≡ false → list_any test (take i xs) ≡ list_any test (take (i + 1) xs)
found-before test xs i d low fails = none-else (list_any test (take i xs)) (test (get_or xs i d)) fails ∙ sym (list_any_more test xs i d low)
