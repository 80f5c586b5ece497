-- A header and events that stand whole at the front of bytes are a front of what these read as.
use Rattle.std.proofs.Common.{◌≡◌, ℕ, ◌+◌, ◌-◌, ◌≤◌, List, ◌++◌, length, refl, sym, ap, ◌∙◌, arith, append_assoc, length-append, inl, inr}
use Rattle.std.specs.List.{AllByRecursion}
use Rattle.std.proofs.lemmas.Grind.{flat_map-append}
use Rattle.ace_event.specs.declared.event.Event.{Event}
use Rattle.ace_event.specs.declared.header.Header.{Header}
use Rattle.ace_event.specs.Text.{event_text, events_text, header_text, line_text, trace_text}
use Rattle.ace_grammar.specs.declared.reason.Reason.{Reason}
use Rattle.ace_grammar.specs.Lines.{BeginsWith}
use Rattle.ace_grammar.specs.Reading.{IsReadable, IsReadableHeader, HasBadHeader, Ending, Whole, Full, Bad, EndsWithin, ReadsWithin}
use Rattle.ace_grammar.proofs.General.Visible.{all-append}
use Rattle.ace_grammar.proofs.Readings.EveryReading.{Stops, events_of}
use Rattle.ace_grammar.proofs.Readings.OneReading.{one_reading, no_bad_header}

-- the text of a trace with more events
pub trace_text-append : (h : Header) (events more : List Event) → trace_text h (events ++ more) ≡ trace_text h events ++ events_text h.version more
trace_text-append h events more =
    ap (λ t. header_text h ++ t) (flat_map-append (λ event. line_text (event_text h.version event)) events more)
    ∙ sym (append_assoc (header_text h) (events_text h.version events) (events_text h.version more))

-- where there is room for so many events behind these, all of them end as those behind do
ends_behind : (most version room : ℕ) (events more : List Event) (rest : List ℕ) → length events + room ≡ most → Stops version room (length more) rest
    → (end : Ending) × EndsWithin most version end (events ++ more) rest
ends_behind most version room events more rest is (inl h) = (Whole, ((rw length-append (omega (arith, h.0, is))), h.1))
ends_behind most version room events more rest is (inr (inl h)) = (Full, ((rw length-append (omega (arith, h.0, is))), h.1))
ends_behind most version room events more rest is (inr (inr h)) =
    (Bad (length (events ++ more) + 3) h.1.0, ((rw length-append (omega (arith, h.0, is))), refl, h.1.1))

-- the bytes read as these events and more
reads_on : (most room : ℕ) (bytes : List ℕ) (header : Header) (events : List Event) → length events + room ≡ most
    → IsReadableHeader header → AllByRecursion (IsReadable header.version) events → BeginsWith bytes (trace_text header events)
    → (more : List Event) × (end : Ending) × ReadsWithin most bytes header (events ++ more) end
reads_on most room bytes header events is readable all front =
    let r = events_of header.version room front.0 in
    let end = ends_behind most header.version room events r.0 r.1 is r.4 in (
      r.0,
      end.0,
      record {
        header_is_readable = readable;
        events_are_readable = all-append (IsReadable header.version) events r.0 all r.2;
        text = (
          r.1,
          front.1 ∙ ap (λ t. trace_text header events ++ t) r.3
              ∙ sym (append_assoc (trace_text header events) (events_text header.version r.0) r.1)
              ∙ ap (λ t. t ++ r.1) (sym (trace_text-append header events r.0)),
          end.1,
        );
      },
    )

pub reads_behind : (most : ℕ) (bytes : List ℕ) (header : Header) (events : List Event) → IsReadableHeader header → AllByRecursion (IsReadable header.version) events
    → length events ≤ most → BeginsWith bytes (trace_text header events) → (more : List Event) × (end : Ending) × ReadsWithin most bytes header (events ++ more) end
reads_behind most bytes header events readable all few front = reads_on most (most - length events) bytes header events (omega (arith, few)) readable all front

pub front_is_read : {most : ℕ} (bytes : List ℕ) (header other : Header) (events read : List Event) (end : Ending)
    → IsReadableHeader header → AllByRecursion (IsReadable header.version) events → length events ≤ most → BeginsWith bytes (trace_text header events)
    → ReadsWithin most bytes other read end → (other ≡ header) × ((more : List Event) × (read ≡ events ++ more))
front_is_read {most} bytes header other events read end readable all few front r =
    let whole = reads_behind most bytes header events readable all few front in
    let one = one_reading bytes other header read (events ++ whole.0) end whole.1 r whole.2 in
    (one.0, (whole.0, one.1))

-- such bytes have no malformed header
pub front_is_good : {most : ℕ} (bytes : List ℕ) (header : Header) (events : List Event) (number : ℕ) (reason : Reason)
    → IsReadableHeader header → AllByRecursion (IsReadable header.version) events → length events ≤ most → BeginsWith bytes (trace_text header events)
    → HasBadHeader bytes number reason → ⊥
front_is_good {most} bytes header events number reason readable all few front bad =
    let whole = reads_behind most bytes header events readable all few front in
    no_bad_header bytes header (events ++ whole.0) whole.1 number reason whole.2 bad
