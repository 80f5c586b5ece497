-- What is said of the transactions that are outstanding.
use Rattle.std.specs.Prelude.{ℕ, ◌==◌, ◌++◌, if◌then◌else◌, List, [], codes, decimal}

-- that so many are
abbrev pub outstanding_words : ℕ → List ℕ
outstanding_words count =
    decimal count ++ (if count == 1 then codes " transaction is outstanding"
    else codes " transactions are outstanding")

-- the note on a trace at whose end so many are, if there are any
abbrev pub outstanding_note : ℕ → List ℕ
outstanding_note count =
    if count == 0 then [] else codes "  note: " ++ outstanding_words count ++ codes " at the end\n"
