-- What an answer of the reader says of the bytes and of their source.
use Rattle.std.specs.Prelude.{◌≡◌, ◌≢◌, ◌<◌, ◌+◌, ⊤, ℕ, List, [], Option, None, Some, Result, Ok, Err}
use Rattle.std.specs.Io.KnownBytes.{Consumes, Keeps, IsAtEnd}
use Rattle.ace_event.specs.declared.event.Event.{Event}
use Rattle.ace_event.specs.Text.{event_text, line_text}
use Rattle.ace_io.specs.Faults.{Rose}
use Rattle.ace_io.specs.Line.{IsPending}
use Rattle.ace_grammar.specs.declared.error.ReadErr.{ReadErr}
use Rattle.ace_grammar.specs.declared.error.ReadErr.TheVariants.{Malformed, TooManyEvents, ReadFault, NoMemory}
use Rattle.ace_grammar.specs.Reading.{IsReadable, HasBadHeader, HasBadLine, TakesNoHeader, IfTold, most_events}

-- some bytes were taken from the front
pub record TakesFront (old new : Option (List ℕ)) : Type 0 where
  pub taken : List ℕ
  pub consumed : Consumes old new taken

-- Nothing is left, and where the bytes were told before, that is told.
abbrev pub LeavesNothing : Option (List ℕ) → Option (List ℕ) → Type 0
LeavesNothing None new = IsAtEnd new
LeavesNothing (Some bytes) new = new ≡ Some []

-- Why there is no header, by the bytes and the count of faults before it was read, and those that
-- the source has then.
abbrev pub HasNoHeader : ReadErr → Option (List ℕ) → ℕ → Option (List ℕ) → ℕ → Type 0
HasNoHeader (Malformed line reason) old faults new faults' =
    IfTold old (λ bytes. HasBadHeader bytes line reason) × TakesFront old new × (faults' ≡ faults)
HasNoHeader TooManyEvents old faults new faults' = ⊥
HasNoHeader ReadFault old faults new faults' = TakesNoHeader old new × Rose faults faults'
HasNoHeader NoMemory old faults new faults' = Keeps old new × (faults' ≡ faults)

-- the answer of a reader that puts the next event in a place, by the event that stands there then
abbrev pub with_event : Event → Result (Option ⊤) ReadErr → Result (Option Event) ReadErr
with_event event (Ok (Some put)) = Ok (Some event)
with_event event (Ok None) = Ok None
with_event event (Err error) = Err error

-- What stands next in a trace of a version that has at most so many events, after a count of them,
-- by the bytes that no line had before and has after it, and those that the source has left then.
abbrev pub StandsNextWithin : ℕ → ℕ → Result (Option Event) ReadErr
    → ℕ → Option (List ℕ) → Option (List ℕ) → Option (List ℕ) → Type 0
StandsNextWithin most version (Ok (Some event)) count old new left =
    (count < most) × IsReadable version event
    × Consumes old new (line_text (event_text version event))
StandsNextWithin most version (Ok None) count old new left =
    IsAtEnd old × LeavesNothing old new × LeavesNothing old left
StandsNextWithin most version (Err (Malformed line reason)) count old new left =
    (count < most) × (line ≡ count + 3) × IfTold old (λ bytes. HasBadLine version bytes reason)
StandsNextWithin most version (Err TooManyEvents) count old new left =
    (count ≡ most) × IfTold old (λ bytes. bytes ≢ [])
StandsNextWithin most version (Err ReadFault) count old new left = IsPending old left
StandsNextWithin most version (Err NoMemory) count old new left = ⊥

-- the same in a trace with the most events that it has
abbrev pub StandsNext : ℕ → Result (Option Event) ReadErr → ℕ
    → Option (List ℕ) → Option (List ℕ) → Option (List ℕ) → Type 0
StandsNext version answer count old new left =
    StandsNextWithin most_events version answer count old new left

-- The source's count of faults rose where the answer is that it failed, and else it is the same.
abbrev pub HasFaultCause : Result (Option Event) ReadErr → ℕ → ℕ → Type 0
HasFaultCause (Ok next) before now = now ≡ before
HasFaultCause (Err (Malformed line reason)) before now = now ≡ before
HasFaultCause (Err TooManyEvents) before now = now ≡ before
HasFaultCause (Err ReadFault) before now = Rose before now
HasFaultCause (Err NoMemory) before now = now ≡ before
