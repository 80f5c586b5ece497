-- What a reader of a binary trace has read, and what it has before it.
use Rattle.std.specs.Prelude.{◌≡◌, ◌≤◌, ℕ, ◌+◌, List, [], ◌∷◌, ◌++◌, length, Option, None, Some, Result, Ok, Err, Bool, true, false}
use Rattle.std.specs.Borrow.{MutBor}
use Rattle.std.specs.Io.KnownBytes.{Consumes}
use Rattle.std.specs.List.{AllByRecursion}
use Rattle.ace_event.specs.declared.event.Event.{Event}
use Rattle.ace_event.specs.declared.header.Header.{Header}
use Rattle.ace_event.specs.Ports.{IsHeader}
use Rattle.ace_event.specs.Range.{InRange}
use Rattle.ace_io.specs.declared.outside.Source.{Ghosts}
use Rattle.ace_bin.specs.declared.error.BinErr.{BinErr}
use Rattle.ace_bin.specs.declared.error.BinErr.TheVariants.{Malformed, TooManyEvents, ReadFault}
use Rattle.ace_bin.specs.declared.reader.BinReader.{BinReader}
use Rattle.ace_bin.specs.declared.stage.Stage.{Stage}
use Rattle.ace_bin.specs.declared.stage.Stage.TheVariants.{Reading, Ended, Failed}
use Rattle.ace_bin.specs.Binary.{binary_of}
use Rattle.ace_bin.specs.Records.{event_bytes}
use Rattle.ace_bin.specs.Reading.{ReadsBinary, Whole, Full, Bad, most_events}
use Rattle.ace_bin.specs.Errors.{TakesFront, HoldsNoRecord}
use Rattle.ace_bin.specs.Window as window

-- the source that it takes bytes from
abbrev pub source_of : {S : Type 0} {g : Ghosts S} → BinReader S g → MutBor S
source_of reader = window.source_of reader.window

-- the bytes that were read neither as a header nor as an event, where its source tells what it has
-- left
abbrev pub unread : {S : Type 0} {g : Ghosts S} → (S → Option (List ℕ)) → BinReader S g
    → Option (List ℕ)
unread left reader = window.waiting left reader.window

-- the header that it read
abbrev pub header_of : {S : Type 0} {g : Ghosts S} → BinReader S g → Header
header_of reader = reader.header

-- how many events it gave
abbrev pub count_of : {S : Type 0} {g : Ghosts S} → BinReader S g → ℕ
count_of reader = reader.count

-- how many bytes it read as the header and as events
abbrev pub place_of : {S : Type 0} {g : Ghosts S} → BinReader S g → ℕ
place_of reader = reader.place

abbrev pub answer_at : Stage → Option (Result (Option Event) BinErr)
answer_at Reading = None
answer_at Ended = Some (Ok None)
answer_at (Failed error) = Some (Err error)

-- the answer that it gives for good, where it has one
abbrev pub last_answer : {S : Type 0} {g : Ghosts S} → BinReader S g
    → Option (Result (Option Event) BinErr)
last_answer reader = answer_at reader.stage

-- an answer stays for good where it is no event
abbrev pub lasting : Result (Option Event) BinErr → Option (Result (Option Event) BinErr)
lasting (Ok (Some event)) = None
lasting (Ok None) = Some (Ok None)
lasting (Err error) = Some (Err error)

-- The answer of a reader that says alone whether it gave an event, by that, the event that stands
-- in the place then, and the answer that it gives for good: where it gave none, that answer.
abbrev pub given : Bool → Event → Option (Result (Option Event) BinErr)
    → Result (Option Event) BinErr
given true event last = Ok (Some event)
given false event None = Ok None
given false event (Some answer) = answer

-- how many events were given after an answer
abbrev pub count_after : ℕ → Result (Option Event) BinErr → ℕ
count_after count (Ok (Some event)) = count + 1
count_after count (Ok None) = count
count_after count (Err error) = count

-- how many bytes were read after an answer
abbrev pub place_after : ℕ → Result (Option Event) BinErr → ℕ
place_after place (Ok (Some event)) = place + length (event_bytes event)
place_after place (Ok None) = place
place_after place (Err error) = place

-- Of these bytes the reader has read its header and these events, oldest first, and no more.
pub record HasRead {S : Type 0} {g : Ghosts S} (left : S → Option (List ℕ)) (bytes : List ℕ)
    (events : List Event) (reader : BinReader S g) : Type 0 where
  pub header_is_right : IsHeader (header_of reader)
  pub events_in_range : AllByRecursion (InRange (header_of reader).version) events
  pub few : length events ≤ most_events
  pub counted : length events ≡ count_of reader
  pub placed : length (binary_of (header_of reader) events) ≡ place_of reader
  pub read : Consumes (Some bytes) (unread left reader) (binary_of (header_of reader) events)

-- The answer of a reader that had read these events of the bytes is that of their reading: one more
-- event, or how they end. At a fault what was taken and not read holds no whole record.
abbrev pub IsReading : {S : Type 0} {g : Ghosts S} → (S → Option (List ℕ)) → List ℕ → List Event
    → BinReader S g → BinReader S g → Result (Option Event) BinErr → Type 0
IsReading left bytes events old new (Ok (Some event)) =
    HasRead left bytes (events ++ event ∷ []) new
IsReading left bytes events old new (Ok None) = ReadsBinary bytes (header_of old) events Whole
IsReading left bytes events old new (Err (Malformed byte reason)) =
    ReadsBinary bytes (header_of old) events (Bad byte reason)
IsReading left bytes events old new (Err TooManyEvents) =
    ReadsBinary bytes (header_of old) events Full
IsReading left bytes events old new (Err ReadFault) =
    TakesFront (unread left old) (left (source_of new).now) (HoldsNoRecord (header_of old).version)
