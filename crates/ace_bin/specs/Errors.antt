-- What an answer of the reader says of the bytes and of their source.
use Rattle.std.specs.Prelude.{◌≡◌, ◌≢◌, ◌<◌, ◌≤◌, ◌⊎◌, ℕ, List, [], length, take, Option, None, Some, Result, Ok, Err}
use Rattle.std.specs.Io.KnownBytes.{Consumes, IsAtEnd}
use Rattle.ace_event.specs.declared.event.Event.{Event}
use Rattle.ace_event.specs.Range.{InRange}
use Rattle.ace_io.specs.Faults.{Rose}
use Rattle.ace_bin.specs.declared.error.BinErr.{BinErr}
use Rattle.ace_bin.specs.declared.error.BinErr.TheVariants.{Malformed, TooManyEvents, ReadFault}
use Rattle.ace_bin.specs.declared.finding.Front.{Front}
use Rattle.ace_bin.specs.declared.finding.Front.TheVariants as fronts
use Rattle.ace_bin.specs.declared.reason.BinReason.{BinReason}
use Rattle.ace_bin.specs.declared.reason.BinReason.TheVariants.{Z1}
use Rattle.ace_bin.specs.Fields.{size_of_all, numbers_at}
use Rattle.ace_bin.specs.Records.{fields_of, tag_of, numbers_of, event_bytes}
use Rattle.ace_bin.specs.Binary.{header_size}
use Rattle.ace_bin.specs.Reading.{HasBadHeader, fields_reason, record_reason, most_events}

-- the same of bytes that may not be told
abbrev pub IfTold : Option (List ℕ) → (List ℕ → Type 0) → Type 0
IfTold None P = Unit {0}
IfTold (Some bytes) P = P bytes

-- some bytes were taken from the front, and they are so
abbrev pub TakesFront : Option (List ℕ) → Option (List ℕ) → (List ℕ → Type 0) → Type 0
TakesFront old new P = (taken : List ℕ) × Consumes old new taken × P taken

-- Nothing is left, and where the bytes were told before, that is told.
abbrev pub LeavesNothing : Option (List ℕ) → Option (List ℕ) → Type 0
LeavesNothing None new = IsAtEnd new
LeavesNothing (Some bytes) new = new ≡ Some []

-- no whole record stands at the front: nothing does, or the bytes end within a record
abbrev pub HoldsNoRecord : ℕ → List ℕ → Type 0
HoldsNoRecord version bytes = (bytes ≡ []) ⊎ (record_reason version bytes ≡ Some Z1)

-- What was read behind a tag, by the event that stands in the place then: an event in range with
-- the numbers of so many bytes, or why there is none.
abbrev pub IsReadAs : ℕ → ℕ → List ℕ → Event → Result ℕ BinReason → Type 0
IsReadAs version tag bytes event (Ok size) =
    (size ≡ size_of_all (fields_of tag)) × (size_of_all (fields_of tag) ≤ length bytes)
    × InRange version event × (tag_of event ≡ tag)
    × (numbers_of event ≡ numbers_at (fields_of tag) 0 bytes)
IsReadAs version tag bytes event (Err reason) =
    fields_reason version (fields_of tag) bytes ≡ Some reason

-- The same of a whole record.
abbrev pub IsRecord : ℕ → List ℕ → Event → Result ℕ BinReason → Type 0
IsRecord version bytes event (Ok size) =
    (size ≤ length bytes) × InRange version event × (take size bytes ≡ event_bytes event)
IsRecord version bytes event (Err reason) = record_reason version bytes ≡ Some reason

-- What stands at the front of some bytes, by the event that stands in the place then. What is
-- malformed stays so, whatever comes after the bytes.
abbrev pub IsFront : ℕ → List ℕ → Event → Front → Type 0
IsFront version bytes event (fronts.Record size) = IsRecord version bytes event (Ok size)
IsFront version bytes event (fronts.Malformed reason) =
    (record_reason version bytes ≡ Some reason) × (reason ≢ Z1)
IsFront version bytes event fronts.Cut = HoldsNoRecord version bytes

-- the answer of a function that puts the next event in a place, by the event that stands there then
abbrev pub with_event : {A : Type 0} → Event → Result (Option A) BinErr
    → Result (Option Event) BinErr
with_event event (Ok (Some put)) = Ok (Some event)
with_event event (Ok None) = Ok None
with_event event (Err error) = Err error

-- Why there is no header, by the bytes and the count of faults before it was read, and those that
-- the source has then. At a fault what was taken is less than a header.
abbrev pub HasNoHeader : BinErr → Option (List ℕ) → ℕ → Option (List ℕ) → ℕ → Type 0
HasNoHeader (Malformed byte reason) old faults new faults' =
    IfTold old (λ bytes. HasBadHeader bytes byte reason) × TakesFront old new (λ taken. Unit {0})
    × (faults' ≡ faults)
HasNoHeader TooManyEvents old faults new faults' = ⊥
HasNoHeader ReadFault old faults new faults' =
    TakesFront old new (λ taken. length taken < header_size) × Rose faults faults'

-- What stands next in a trace of a version after so many events and so many bytes, by the bytes
-- that were not read before and those that are not read after it, and those that the source has
-- left then. At a fault what was taken and not read holds no whole record.
abbrev pub StandsNext : ℕ → Result (Option Event) BinErr → ℕ → ℕ → Option (List ℕ)
    → Option (List ℕ) → Option (List ℕ) → Type 0
StandsNext version (Ok (Some event)) count place old new left =
    (count < most_events) × InRange version event × Consumes old new (event_bytes event)
StandsNext version (Ok None) count place old new left =
    IsAtEnd old × LeavesNothing old new × LeavesNothing old left
StandsNext version (Err (Malformed byte reason)) count place old new left =
    (count < most_events) × (byte ≡ place)
    × IfTold old (λ bytes. record_reason version bytes ≡ Some reason)
StandsNext version (Err TooManyEvents) count place old new left =
    (count ≡ most_events) × IfTold old (λ bytes. bytes ≢ [])
StandsNext version (Err ReadFault) count place old new left =
    TakesFront old left (HoldsNoRecord version)

-- The source's count of faults rose where the answer is that it failed, and else it is the same.
abbrev pub HasFaultCause : Result (Option Event) BinErr → ℕ → ℕ → Type 0
HasFaultCause (Ok next) before now = now ≡ before
HasFaultCause (Err (Malformed byte reason)) before now = now ≡ before
HasFaultCause (Err TooManyEvents) before now = now ≡ before
HasFaultCause (Err ReadFault) before now = Rose before now
