-- The fields of what is left of a line.
use Rattle.std.specs.Prelude.{ℕ, ◌==◌, List, [], Option, Some, None}
use Rattle.std.specs.List.{slice_split}

-- none where no space is left
abbrev pub parts : Option (List ℕ) → List (List ℕ)
parts None = []
parts (Some bytes) = slice_split (λ byte. byte == 32) bytes
