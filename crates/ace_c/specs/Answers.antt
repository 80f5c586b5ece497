-- What a call answers.
use Rattle.std.specs.Prelude.{ℕ}
use Rattle.ace_c.specs.declared.answer.AceAnswer.{AceAnswer}
use Rattle.ace_c.specs.declared.answer.Ending.{Ending}
use Rattle.ace_c.specs.declared.answer.Ending.TheVariants.{Refused, OutOfRange, TooManyLines, NoMemory, TooManyEvents}

-- the status of each ending; that of a session that goes on is 0, that of a closed handle 6
abbrev pub status_of : Ending → ℕ
status_of (Refused rule) = 1
status_of OutOfRange = 2
status_of TooManyLines = 3
status_of NoMemory = 4
status_of TooManyEvents = 5

-- the rule that an ending names
abbrev pub rule_of : Ending → ℕ
rule_of (Refused rule) = rule
rule_of _ = 0

-- the answer of a session that the event with this number ended
abbrev pub answer_of : Ending → ℕ → AceAnswer
answer_of ending event =
    record { event = event; status = status_of ending; rule = rule_of ending }

-- the answer of a session that goes on after so many events
abbrev pub fine : ℕ → AceAnswer
fine events = record { event = events; status = 0; rule = 0 }

-- the answer of a closed handle
abbrev pub not_open : AceAnswer
not_open = record { event = 0; status = 6; rule = 0 }
