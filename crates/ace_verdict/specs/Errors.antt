-- The verdict where a trace could not be read on.
use Rattle.std.specs.Prelude.{⊤, Option, Result, Ok, Err}
use Rattle.ace_event.specs.declared.event.Event.{Event}
use Rattle.ace_grammar.specs.declared.error.ReadErr.{ReadErr}
use Rattle.ace_grammar.specs.declared.error.ReadErr.TheVariants.{Malformed, TooManyEvents, ReadFault, NoMemory}
use Rattle.ace_verdict.specs.declared.verdict.Verdict.{Verdict}
use Rattle.ace_verdict.specs.declared.verdict.Verdict.TheVariants as verdict

abbrev pub refusal_of : ReadErr → Verdict
refusal_of (Malformed line reason) = verdict.Malformed line reason
refusal_of TooManyEvents = verdict.LimitEvents
refusal_of ReadFault = verdict.ReadFault
refusal_of NoMemory = verdict.NoMemory

-- how the reading of a trace ends with such an answer of its reader: at the end of the trace, or by
-- an error
abbrev pub ends_so : Result (Option Event) ReadErr → Result ⊤ Verdict
ends_so (Ok next) = Ok tt
ends_so (Err error) = Err (refusal_of error)
