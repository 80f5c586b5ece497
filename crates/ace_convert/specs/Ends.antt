-- How the reading of a trace ends, by the answers of the readers.
use Rattle.std.specs.Prelude.{◌≡◌, ◌≢◌, ⊤, ℕ, List, Option, None, Some, Result, Ok, Err, IfSome}
use Rattle.ace_event.specs.declared.event.Event.{Event}
use Rattle.ace_io.specs.Faults.{Rose}
use Rattle.ace_grammar.specs.declared.error.ReadErr.{ReadErr}
use Rattle.ace_grammar.specs.declared.error.ReadErr.TheVariants as text
use Rattle.ace_bin.specs.declared.error.BinErr.{BinErr}
use Rattle.ace_bin.specs.declared.error.BinErr.TheVariants as binary
use Rattle.ace_convert.specs.Form.{Form}
use Rattle.ace_convert.specs.declared.end.TraceEnd.{TraceEnd}
use Rattle.ace_convert.specs.declared.end.TraceEnd.TheVariants.{Whole, BadLine, BadRecord, Full, ReadFault, NoMemory}
use Rattle.ace_convert.specs.Reading.{ReadsNoHeader}

abbrev pub text_end : ReadErr → TraceEnd
text_end (text.Malformed line reason) = BadLine line reason
text_end text.TooManyEvents = Full
text_end text.ReadFault = ReadFault
text_end text.NoMemory = NoMemory

abbrev pub binary_end : BinErr → TraceEnd
binary_end (binary.Malformed byte reason) = BadRecord byte reason
binary_end binary.TooManyEvents = Full
binary_end binary.ReadFault = ReadFault

-- whether there was an event of a text, or how its reading ends
abbrev pub of_text : Result (Option ⊤) ReadErr → Result ⊤ TraceEnd
of_text (Ok (Some put)) = Ok put
of_text (Ok None) = Err Whole
of_text (Err error) = Err (text_end error)

-- the same of a binary trace
abbrev pub of_binary : Result (Option ⊤) BinErr → Result ⊤ TraceEnd
of_binary (Ok (Some put)) = Ok put
of_binary (Ok None) = Err Whole
of_binary (Err error) = Err (binary_end error)

-- the next event of a trace, which was put in a place, or how its reading ends, by the event that
-- stands there then
abbrev pub with_event : Event → Result ⊤ TraceEnd → Result Event TraceEnd
with_event event (Ok put) = Ok event
with_event event (Err end) = Err end

-- A count of faults goes up exactly where the input failed.
pub record HasReadCause (before now : ℕ) (end : TraceEnd) : Type 0 where
  pub failed : end ≡ ReadFault → Rose before now
  pub steady : end ≢ ReadFault → now ≡ before

-- There is no header in the form, and the reading ends so.
abbrev pub HasNoTrace : Form → TraceEnd → Option (List ℕ) → Option (List ℕ) → Type 0
HasNoTrace form end old left =
    (end ≢ Whole) × IfSome old (λ bytes. ReadsNoHeader form bytes left end)

-- an end that says what is in the input, and not that it failed or that there was no memory
abbrev pub IsDueEnd : TraceEnd → Type 0
IsDueEnd ReadFault = ⊥
IsDueEnd NoMemory = ⊥
IsDueEnd end = ⊤
