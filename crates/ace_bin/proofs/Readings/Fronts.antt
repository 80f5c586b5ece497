-- A header and events that stand whole at the front of bytes are a front of what these read as.
use Rattle.std.proofs.Common.{◌≡◌, ℕ, ◌+◌, ◌-◌, ◌≤◌, List, [], ◌∷◌, ◌++◌, length, refl, sym, ap, subst, ◌∙◌, arith, append_assoc, append-nil, length-append, inl, inr}
use Rattle.std.specs.List.{AllByRecursion}
use Rattle.std.proofs.lemmas.Grind.{flat_map-append}
use Rattle.ace_event.specs.declared.event.Event.{Event}
use Rattle.ace_event.specs.declared.header.Header.{Header}
use Rattle.ace_event.specs.Ports.{IsHeader}
use Rattle.ace_event.specs.Range.{InRange}
use Rattle.ace_bin.specs.declared.reason.BinReason.{BinReason}
use Rattle.ace_bin.specs.Binary.{header_bytes, events_bytes, binary_of}
use Rattle.ace_bin.specs.Records.{event_bytes}
use Rattle.ace_bin.specs.Reading.{AreBytes, BeginsWith, HasBadHeader, most_events, Ending, Whole, Full, Bad, Ends, ReadsBinary}
use Rattle.ace_bin.proofs.Readings.EveryReading.{Stops, events_of, bytes_behind}
use Rattle.ace_bin.proofs.Readings.OneReading.{one_reading, header_isn't_bad}

pub all-append : {A : Type 0} (P : A → Type 0) (xs ys : List A) → AllByRecursion P xs → AllByRecursion P ys → AllByRecursion P (xs ++ ys)
all-append P [] ys h k = k
all-append P (x ∷ xs) ys h k = (h.0, all-append P xs ys h.1 k)

-- a trace with more events
pub binary_of-append : (header : Header) (events more : List Event) → binary_of header (events ++ more) ≡ binary_of header events ++ events_bytes more
binary_of-append header events more =
    ap (λ (l : List ℕ). header_bytes header ++ l) (flat_map-append event_bytes events more)
    ∙ sym (append_assoc (header_bytes header) (events_bytes events) (events_bytes more))

-- a trace with one more event
pub binary_of-more : (header : Header) (events : List Event) (event : Event) → binary_of header (events ++ event ∷ []) ≡ binary_of header events ++ event_bytes event
binary_of-more header events event =
    binary_of-append header events (event ∷ []) ∙ ap (λ (l : List ℕ). binary_of header events ++ l) (append-nil (event_bytes event))

-- where there is room for so many events behind these, all of them end as those behind do
ends_behind : (header : Header) (room : ℕ) (events more : List Event) (rest : List ℕ) → length events + room ≡ most_events → Stops header.version room (length more) rest
    → (end : Ending) × Ends header end (events ++ more) rest
ends_behind header room events more rest is (inl h) = (Whole, ((rw length-append (omega (arith, h.0, is))), h.1))
ends_behind header room events more rest is (inr (inl h)) = (Full, ((rw length-append (omega (arith, h.0, is))), h.1))
ends_behind header room events more rest is (inr (inr h)) =
    (Bad (length (binary_of header (events ++ more))) h.1.0, ((rw length-append (omega (arith, h.0, is))), refl, h.1.1))

-- the bytes read as these events and more
reads_on : (room : ℕ) (bytes : List ℕ) (header : Header) (events : List Event) → AreBytes bytes → length events + room ≡ most_events
    → IsHeader header → AllByRecursion (InRange header.version) events → BeginsWith bytes (binary_of header events)
    → (more : List Event) × (end : Ending) × ReadsBinary bytes header (events ++ more) end
reads_on room bytes header events are is right all front =
    let r = events_of header.version room front.0 (bytes_behind (binary_of header events) front.0 (subst AreBytes front.1 are)) in
    let end = ends_behind header room events r.0 r.1 is r.4 in (
      r.0,
      end.0,
      record {
        header_is_right = right;
        events_in_range = all-append (InRange header.version) events r.0 all r.2;
        parts = (
          r.1,
          front.1 ∙ ap (λ (l : List ℕ). binary_of header events ++ l) r.3
              ∙ sym (append_assoc (binary_of header events) (events_bytes r.0) r.1)
              ∙ ap (λ (l : List ℕ). l ++ r.1) (sym (binary_of-append header events r.0)),
          end.1,
        );
      },
    )

pub front_is_read : (bytes : List ℕ) (header other : Header) (events read : List Event) (end : Ending)
    → AreBytes bytes → IsHeader header → AllByRecursion (InRange header.version) events → length events ≤ most_events → BeginsWith bytes (binary_of header events)
    → ReadsBinary bytes other read end → (other ≡ header) × ((more : List Event) × (read ≡ events ++ more))
front_is_read bytes header other events read end are right all few front r =
    let whole = reads_on (most_events - length events) bytes header events are (omega (arith, few)) right all front in
    let one = one_reading bytes other header read (events ++ whole.0) end whole.1 r whole.2 in
    (one.0, (whole.0, one.1))

-- such bytes have no malformed header
pub front_is_good : (bytes : List ℕ) (header : Header) (events : List Event) (byte : ℕ) (reason : BinReason)
    → IsHeader header → BeginsWith bytes (binary_of header events) → HasBadHeader bytes byte reason → ⊥
front_is_good bytes header events byte reason right front bad =
    header_isn't_bad bytes (events_bytes events ++ front.0) header byte reason right (front.1 ∙ append_assoc (header_bytes header) (events_bytes events) front.0) bad

-- the bytes of a trace read as that trace
pub reads_back : (header : Header) (events : List Event) → IsHeader header → AllByRecursion (InRange header.version) events → length events ≤ most_events
    → ReadsBinary (binary_of header events) header events Whole
reads_back header events right all few = record { header_is_right = right; events_in_range = all; parts = ([], sym (append-nil (binary_of header events)), (few, refl)) }

-- and they are the only ones
pub only_bytes : (bytes : List ℕ) (header : Header) (events : List Event) → ReadsBinary bytes header events Whole → bytes ≡ binary_of header events
only_bytes bytes header events r = r.parts.1 ∙ ap (λ (l : List ℕ). binary_of header events ++ l) r.parts.2.1 ∙ append-nil (binary_of header events)
