-- Parts of a list.
use Rattle.std.specs.Prelude.{◌≡◌, ℕ, ◌+◌, ◌%◌, ◌++◌, ◌==◌, ◌≤◌, Bool, true, if◌then◌else◌, List, [], ◌∷◌}

-- This place of a list, counted from 0, is in this one of so many parts: the K-th, (K + N)-th, ..
-- element are in part K of N.
abbrev pub is_in : ℕ → ℕ → ℕ → Bool
is_in part parts place = place % parts + 1 == part

-- the element at this place, if it is in that part
abbrev pub if_in : {X : Type 0} → ℕ → ℕ → ℕ → X → List X
if_in part parts place x = if is_in part parts place then x ∷ [] else []

-- the elements at those places, where the list begins at this one
abbrev pub part_from : {X : Type 0} → ℕ → ℕ → ℕ → List X → List X
part_from part parts place [] = []
part_from part parts place (x ∷ xs) =
    if_in part parts place x ++ part_from part parts (place + 1) xs

abbrev pub part_of : {X : Type 0} → ℕ → ℕ → List X → List X
part_of part parts xs = part_from part parts 0 xs

-- Each place of a list is in one of the parts, and in no other.
abbrev pub IsInOnePart : ℕ → ℕ → Type 0
IsInOnePart parts place = (part : ℕ) × (1 ≤ part) × (part ≤ parts) × (is_in part parts place ≡ true)
    × ((other : ℕ) → is_in other parts place ≡ true → other ≡ part)
