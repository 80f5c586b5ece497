-- What a text leaves on a sink that failed while it was written.
use Rattle.std.specs.Prelude.{◌≡◌, ◌++◌, List, ℕ, Option}
use Rattle.std.specs.Io.KnownBytes.{Appends}

-- a front of the text was appended
abbrev pub AppendsPart : Option (List ℕ) → Option (List ℕ) → List ℕ → Type 0
AppendsPart old new text =
    (part : List ℕ) × (rest : List ℕ) × (text ≡ part ++ rest) × Appends old new part
