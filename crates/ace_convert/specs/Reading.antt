-- How bytes read as a trace, in either form.
use Rattle.std.specs.Prelude.{◌≤◌, ◌<◌, ⊤, ℕ, List, [], ◌∷◌, ◌++◌, Option, Some, Result, Ok, Err, length}
use Rattle.std.specs.List.{AllByRecursion}
use Rattle.std.specs.Io.KnownBytes.{Consumes}
use Rattle.ace_event.specs.declared.header.Header.{Header}
use Rattle.ace_event.specs.declared.event.Event.{Event}
use Rattle.ace_event.specs.Ports.{IsHeader}
use Rattle.ace_event.specs.Range.{InRange}
use Rattle.ace_io.specs.Line.{HasNoLf}
use Rattle.ace_grammar.specs.Reading as text
use Rattle.ace_bin.specs.Reading as binary
use Rattle.ace_bin.specs.Binary.{header_size}
use Rattle.ace_bin.specs.Errors as errors
use Rattle.ace_convert.specs.Form.{Form, Text, Binary}
use Rattle.ace_convert.specs.declared.end.TraceEnd.{TraceEnd}
use Rattle.ace_convert.specs.declared.end.TraceEnd.TheVariants.{Whole, BadLine, BadRecord, Full, ReadFault, NoMemory}
use Rattle.ace_convert.specs.Spelling.{spelt}

-- a header, and events that a trace with it may have
pub record IsTrace (header : Header) (events : List Event) : Type 0 where
  pub header_is_right : IsHeader header
  pub events_in_range : AllByRecursion (InRange header.version) events
  pub few : length events ≤ text.most_events

-- no whole event of a trace of a version stands at the front: the bytes are less than a line, or
-- hold no whole record
abbrev pub HoldsNoEvent : Form → ℕ → List ℕ → Type 0
HoldsNoEvent Text version bytes = HasNoLf bytes × (length bytes < 256)
HoldsNoEvent Binary version bytes = errors.HoldsNoRecord version bytes

-- Of the bytes this trace was taken, and no whole event behind it.
abbrev pub TakesTrace : Form → List ℕ → Option (List ℕ) → Header → List Event → Type 0
TakesTrace form bytes left header events =
    IsTrace header events × ((pending : List ℕ) × HoldsNoEvent form header.version pending
    × Consumes (Some bytes) left (spelt form header events ++ pending))

-- The bytes, of which these are left, are this header and these events in the form, oldest first,
-- and then their reading ends so.
abbrev pub ReadsTo : Form → List ℕ → Option (List ℕ) → Header → List Event → TraceEnd → Type 0
ReadsTo Text bytes left header events Whole = text.Reads bytes header events text.Whole
ReadsTo Text bytes left header events (BadLine line reason) =
    text.Reads bytes header events (text.Bad line reason)
ReadsTo Text bytes left header events Full = text.Reads bytes header events text.Full
ReadsTo Binary bytes left header events Whole =
    binary.ReadsBinary bytes header events binary.Whole
ReadsTo Binary bytes left header events (BadRecord byte reason) =
    binary.ReadsBinary bytes header events (binary.Bad byte reason)
ReadsTo Binary bytes left header events Full = binary.ReadsBinary bytes header events binary.Full
ReadsTo form bytes left header events ReadFault = TakesTrace form bytes left header events
ReadsTo form bytes left header events end = ⊥

-- The same where the reading ends before there is a header. Want of memory may end it so, whatever
-- the bytes are.
abbrev pub ReadsNoHeader : Form → List ℕ → Option (List ℕ) → TraceEnd → Type 0
ReadsNoHeader Text bytes left (BadLine line reason) = text.HasBadHeader bytes line reason
ReadsNoHeader Binary bytes left (BadRecord byte reason) = binary.HasBadHeader bytes byte reason
ReadsNoHeader Text bytes left ReadFault = text.TakesNoHeader (Some bytes) left
ReadsNoHeader Binary bytes left ReadFault =
    errors.TakesFront (Some bytes) left (λ taken. length taken < header_size)
ReadsNoHeader form bytes left NoMemory = ⊤
ReadsNoHeader form bytes left end = ⊥

-- The answer of a reader of the form that had read these events, with this header, of the bytes, of
-- which these are left now, is that of their reading: one more event, and then it has read so many,
-- or how they end.
abbrev pub IsReading : Form → (List Event → Type 0) → List ℕ → Option (List ℕ) → Header → List Event
    → Result Event TraceEnd → Type 0
IsReading form HasRead bytes left header events (Ok event) = HasRead (events ++ event ∷ [])
IsReading form HasRead bytes left header events (Err end) =
    ReadsTo form bytes left header events end
