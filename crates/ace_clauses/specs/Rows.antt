-- What the worked rows have in common: headers and lines in short, and the clause of the first
-- break of a trace.
use Rattle.std.specs.Prelude.{ℕ, ◌+◌, ◌*◌, List, [], ◌∷◌, Option, Some, None, length}
use Rattle.ace_event.specs.declared.event.Event.{Event}
use Rattle.ace_event.specs.declared.header.Header.{Header}
use Rattle.ace_event.specs.declared.line.Line.{Line}
use Rattle.ace_model.specs.Trace.{Trace}
use Rattle.ace_model.specs.Accepted.{least_broken}
use Rattle.ace_clauses.specs.declared.letters.Letter.{Letter}
use Rattle.ace_clauses.specs.Clauses.{clause_of}

-- the version, how many ports there are, and a bit for each that is an ACE port, port 0 the last
abbrev pub header_of : ℕ → ℕ → ℕ → Header
header_of version ports ace = record { version = version; ports = ports; ace = ace }

-- the word with this byte in every place, and the line with this word in every place
abbrev pub filled : ℕ → ℕ
filled byte = byte * 0x01010101010101010101010101010101

abbrev pub line_of : ℕ → Line
line_of word = record { words = word ∷ word ∷ word ∷ word ∷ [] }

-- the number of an event, from 1, the least rule that it breaks, and the clause of it
pub record BrokenClause : Type 0 where
  pub index : ℕ
  pub rule : ℕ
  pub letter : Option Letter

-- the break of the event after the trace, by its least rule, or else what comes later
abbrev pub clause_or : Header → Trace → Event → Option ℕ → Option BrokenClause → Option BrokenClause
clause_or h past e None later = later
clause_or h past e (Some k) later =
    Some (record { index = length past + 1; rule = k; letter = clause_of h past e k })

-- after `past` come the events of the list, the oldest first
abbrev pub broken_clause_after : Header → Trace → List Event → Option BrokenClause
broken_clause_after h past [] = None
broken_clause_after h past (e ∷ events) =
    clause_or h past e (least_broken h past e) (broken_clause_after h (e ∷ past) events)

-- the first break of a trace, the oldest event first, and its clause
abbrev pub broken_clause : Header → List Event → Option BrokenClause
broken_clause h events = broken_clause_after h [] events
