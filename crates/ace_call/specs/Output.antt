-- What a text leaves on a sink that failed while it was written.
use Rattle.std.specs.Prelude.{List, ℕ, Option}
use Rattle.ace_convert.specs.Output.{AppendsPart}

-- a front of the one text was appended, and then a front of the other
abbrev pub AppendsParts : Option (List ℕ) → Option (List ℕ) → List ℕ → List ℕ → Type 0
AppendsParts old new text after =
    (between : Option (List ℕ)) × AppendsPart old between text × AppendsPart between new after
