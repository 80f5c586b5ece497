-- An event at the front of some bytes.
use Rattle.std.specs.Prelude.{ℕ, ◌≡◌, ◌<◌, ◌++◌, ◌∷◌, List, [], length, reverse, take, slice_index, Option, Some}
use Rattle.std.specs.List.{AllByRecursion}
use Rattle.std.specs.Io.KnownBytes.{Consumes}
use Rattle.ace_event.specs.declared.event.Event.{Event}
use Rattle.ace_event.specs.Text.{event_text, events_text, line_text}
use Rattle.ace_grammar.specs.Reading.{IsReadable}

-- So many bytes are read as the event, and a line feed stands behind them.
pub record IsInFront (read : List ℕ → Option Event) (bytes : List ℕ)
    (event : Event) (count : ℕ) : Type 0 where
  pub within : count < length bytes
  pub lf : slice_index bytes count ≡ 10
  pub is_read : read (take count bytes) ≡ Some event

-- The line of some event of a trace of a version was read at the front of the bytes, and the event
-- was taken.
pub record HandsOver (version : ℕ) (took : Event → Type 0)
    (old new : Option (List ℕ)) : Type 0 where
  pub event : Event
  pub readable : IsReadable version event
  pub text : Consumes old new (line_text (event_text version event))
  pub taken : took event

-- A taker has taken these events one after another, which are kept newest first, and so came from
-- what it was first to what it was last.
abbrev pub HasTakenAll : {T : Type 0} → (T → Event → T → Type 0) → List Event → T → T → Type 0
HasTakenAll took [] first last = last ≡ first
HasTakenAll took (event ∷ past) first last =
    (between : _) × HasTakenAll took past first between × took between event last

-- The lines of these events, which are kept newest first, stood before the rest of the bytes of a
-- trace of version 1, and each event was taken.
pub record StoodInFront {T : Type 0} (took : T → Event → T → Type 0)
    (bytes rest : List ℕ) (events : List Event) (first last : T) : Type 0 where
  pub readable : AllByRecursion (IsReadable 1) (reverse events)
  pub text : bytes ≡ events_text 1 (reverse events) ++ rest
  pub taken : HasTakenAll took events first last

-- The lines of so many events of a trace of a version were read at the front of the bytes, and each
-- event was taken.
pub record HandsAllOver {T : Type 0} (version : ℕ) (took : T → Event → T → Type 0)
    (count : ℕ) (first last : T) (old new : Option (List ℕ)) : Type 0 where
  pub events : List Event
  pub counted : length events ≡ count
  pub readable : AllByRecursion (IsReadable version) (reverse events)
  pub text : Consumes old new (events_text version (reverse events))
  pub taken : HasTakenAll took events first last
