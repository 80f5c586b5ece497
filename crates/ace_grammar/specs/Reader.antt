-- What a reader of a trace has read, and what it has before it.
use Rattle.std.specs.Prelude.{◌≡◌, ◌≤◌, ℕ, Bool, true, false, ◌+◌, List, [], ◌∷◌, ◌++◌, length, Option, None, Some, Result, Ok, Err}
use Rattle.std.specs.Borrow.{MutBor}
use Rattle.std.specs.Io.KnownBytes.{Consumes}
use Rattle.std.specs.List.{AllByRecursion}
use Rattle.ace_event.specs.declared.event.Event.{Event}
use Rattle.ace_event.specs.declared.header.Header.{Header}
use Rattle.ace_event.specs.Text.{trace_text}
use Rattle.ace_io.specs.Line.{IsPending}
use Rattle.ace_io.specs.Reader as lines
use Rattle.ace_io.specs.declared.outside.Source.{Ghosts}
use Rattle.ace_grammar.specs.declared.error.ReadErr.{ReadErr}
use Rattle.ace_grammar.specs.declared.error.ReadErr.TheVariants.{Malformed, TooManyEvents, ReadFault, NoMemory}
use Rattle.ace_grammar.specs.declared.reader.Reader.{Reader}
use Rattle.ace_grammar.specs.declared.stage.Stage.{Stage}
use Rattle.ace_grammar.specs.declared.stage.Stage.TheVariants.{Reading, Ended, Failed}
use Rattle.ace_grammar.specs.Reading.{ReadsWithin, Whole, Full, Bad, IsReadable, IsReadableHeader}

-- the source that it takes bytes from
abbrev pub source_of : {S : Type 0} {g : Ghosts S} → Reader S g → MutBor S
source_of reader = lines.source_of reader.lines

-- the bytes that were read neither as a header nor as an event, where its source tells what it has
-- left
abbrev pub unread : {S : Type 0} {g : Ghosts S} → (S → Option (List ℕ))
    → Reader S g → Option (List ℕ)
unread left reader = lines.waiting left reader.lines

-- the header that it read
abbrev pub header_of : {S : Type 0} {g : Ghosts S} → Reader S g → Header
header_of reader = reader.header

-- the most events that it gives
abbrev pub most_of : {S : Type 0} {g : Ghosts S} → Reader S g → ℕ
most_of reader = reader.most

-- how many events it gave
abbrev pub count_of : {S : Type 0} {g : Ghosts S} → Reader S g → ℕ
count_of reader = reader.count

abbrev pub answer_at : Stage → Option (Result (Option Event) ReadErr)
answer_at Reading = None
answer_at Ended = Some (Ok None)
answer_at (Failed error) = Some (Err error)

-- the answer that it gives for good, where it has one
abbrev pub last_answer : {S : Type 0} {g : Ghosts S} → Reader S g
    → Option (Result (Option Event) ReadErr)
last_answer reader = answer_at reader.stage

-- an answer stays for good where it is no event
abbrev pub lasting : Result (Option Event) ReadErr → Option (Result (Option Event) ReadErr)
lasting (Ok (Some event)) = None
lasting (Ok None) = Some (Ok None)
lasting (Err error) = Some (Err error)

-- The answer of a reader that says alone whether it gave an event, by that, the event that stands
-- in the place then, and the answer that it gives for good: where it gave none, that answer.
abbrev pub given : Bool → Event → Option (Result (Option Event) ReadErr)
    → Result (Option Event) ReadErr
given true event last = Ok (Some event)
given false event None = Ok None
given false event (Some answer) = answer

-- how many events were given after an answer
abbrev pub count_after : ℕ → Result (Option Event) ReadErr → ℕ
count_after count (Ok (Some event)) = count + 1
count_after count (Ok None) = count
count_after count (Err error) = count

-- Of these bytes the reader has read its header and these events, oldest first, and no more.
pub record HasRead {S : Type 0} {g : Ghosts S} (left : S → Option (List ℕ))
    (bytes : List ℕ) (events : List Event) (reader : Reader S g) : Type 0 where
  pub header_is_readable : IsReadableHeader (header_of reader)
  pub events_are_readable : AllByRecursion (IsReadable (header_of reader).version) events
  pub few : length events ≤ most_of reader
  pub counted : length events ≡ count_of reader
  pub text : Consumes (Some bytes) (unread left reader) (trace_text (header_of reader) events)

-- The answer of a reader that had read these events of the bytes is that of their reading: one more
-- event, or how they end, where a trace has as many events as the reader gives at most. At a fault
-- what was taken and not given is less than a line.
abbrev pub IsReading : {S : Type 0} {g : Ghosts S} → (S → Option (List ℕ))
    → List ℕ → List Event → Reader S g → Reader S g → Result (Option Event) ReadErr → Type 0
IsReading left bytes events old new (Ok (Some event)) =
    HasRead left bytes (events ++ event ∷ []) new
IsReading left bytes events old new (Ok None) =
    ReadsWithin (most_of old) bytes (header_of old) events Whole
IsReading left bytes events old new (Err (Malformed line reason)) =
    ReadsWithin (most_of old) bytes (header_of old) events (Bad line reason)
IsReading left bytes events old new (Err TooManyEvents) =
    ReadsWithin (most_of old) bytes (header_of old) events Full
IsReading left bytes events old new (Err ReadFault) =
    IsPending (unread left old) (left (source_of new).now)
IsReading left bytes events old new (Err NoMemory) = ⊥
