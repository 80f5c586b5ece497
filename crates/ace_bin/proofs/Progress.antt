-- One answer more of a reader, as a reading of the bytes.
use Rattle.std.proofs.Common.{◌≡◌, ◌≢◌, ◌+◌, ◌++◌, ℕ, List, [], ◌∷◌, length, Option, Some, None, Result, Ok, Err, IfSome, sym, ap, subst, ◌∙◌, append-nil, arith, length-append}
use Rattle.std.specs.List.{AllByRecursion}
use Rattle.std.specs.Io.KnownBytes.{Consumes, IsAtEnd}
use Rattle.std.proofs.KnownBytes.{Consumes-trans}
use Rattle.ace_event.specs.declared.event.Event.{Event}
use Rattle.ace_event.specs.declared.header.Header.{Header}
use Rattle.ace_event.specs.Ports.{IsHeader}
use Rattle.ace_event.specs.Range.{InRange}
use Rattle.ace_io.specs.declared.outside.Source.{Ghosts}
use Rattle.ace_bin.specs.declared.error.BinErr.{BinErr}
use Rattle.ace_bin.specs.declared.error.BinErr.TheVariants.{Malformed, TooManyEvents, ReadFault}
use Rattle.ace_bin.specs.declared.reader.BinReader.{BinReader}
use Rattle.ace_bin.specs.Binary.{header_bytes, binary_of}
use Rattle.ace_bin.specs.Records.{event_bytes}
use Rattle.ace_bin.specs.Errors.{IfTold, StandsNext}
use Rattle.ace_bin.specs.Reader.{HasRead, IsReading, source_of, unread, header_of, count_of, place_of, count_after, place_after}
use Rattle.ace_bin.specs.Reading.{ReadsBinary, Ending, Ends, Whole, Full, Bad, record_reason}
use Rattle.ace_bin.proofs.Headers.{header_length}
use Rattle.ace_bin.proofs.Readings.Fronts.{all-append, binary_of-more}

-- the bytes are those that were consumed, and the rest
split : (bytes text : List ℕ) (left : Option (List ℕ)) (P : List ℕ → Type 0) → Consumes (Some bytes) left text → IfTold left P → (rest : List ℕ) × (bytes ≡ text ++ rest) × P rest
split bytes text None P c p = absurd c
split bytes text (Some rest) P c p = (rest, c, p)

-- nothing is left
at_end : (left : Option (List ℕ)) → IsAtEnd left → IfTold left (λ rest. rest ≡ [])
at_end None e = tt
at_end (Some rest) e = e

-- the bytes end so
ends : {S : Type 0} {g : Ghosts S} (left : S → Option (List ℕ)) (bytes : List ℕ) (events : List Event) (reader : BinReader S g) (ending : Ending) (P : List ℕ → Type 0)
    → HasRead left bytes events reader → IfTold (unread left reader) P → ((rest : List ℕ) → P rest → Ends (header_of reader) ending events rest) → ReadsBinary bytes (header_of reader) events ending
ends left bytes events reader ending P h p end =
    let parts = split bytes (binary_of (header_of reader) events) (unread left reader) P h.read p in
    record { header_is_right = h.header_is_right; events_in_range = h.events_in_range; parts = (parts.0, parts.1, end parts.0 parts.2) }

-- nothing was read but the header
pub read_header_alone : {S : Type 0} {g : Ghosts S} (left : S → Option (List ℕ)) (old : Option (List ℕ)) (reader : BinReader S g)
    → IsHeader (header_of reader) → Consumes old (unread left reader) (header_bytes (header_of reader)) → count_of reader ≡ 0 → place_of reader ≡ 10
    → IfSome old (λ bytes. HasRead left bytes [] reader)
read_header_alone left None reader right text none place = tt
read_header_alone left (Some bytes) reader right text none place = record {
  header_is_right = right;
  events_in_range = tt;
  few = omega arith;
  counted = sym none;
  placed = ap length (append-nil (header_bytes (header_of reader))) ∙ header_length (header_of reader) ∙ sym place;
  read = rw append-nil text;
}

-- one answer more
pub reading_next : {S : Type 0} {g : Ghosts S} (left : S → Option (List ℕ)) (bytes : List ℕ) (events : List Event) (old new : BinReader S g) (result : Result (Option Event) BinErr)
    → header_of new ≡ header_of old → count_of new ≡ count_after (count_of old) result → place_of new ≡ place_after (place_of old) result
    → StandsNext (header_of old).version result (count_of old) (place_of old) (unread left old) (unread left new) (left (source_of new).now)
    → HasRead left bytes events old → IsReading left bytes events old new result
reading_next left bytes events old new (Ok (Some event)) same counted placed s h =
    let longer = binary_of-more (header_of old) events event in
    record {
      header_is_right = subst IsHeader (sym same) h.header_is_right;
      events_in_range = subst (λ (header : Header). AllByRecursion (InRange header.version) (events ++ event ∷ [])) (sym same)
          (all-append (InRange (header_of old).version) events (event ∷ []) h.events_in_range (s.1, tt));
      few = rw length-append (omega (arith, h.counted, s.0));
      counted = length-append events (event ∷ []) ∙ ap (λ n. n + 1) h.counted ∙ sym counted;
      placed = ap (λ (header : Header). length (binary_of header (events ++ event ∷ []))) same
          ∙ ap length longer
          ∙ length-append (binary_of (header_of old) events) (event_bytes event)
          ∙ ap (λ n. n + length (event_bytes event)) h.placed
          ∙ sym placed;
      read = subst (λ (header : Header). Consumes (Some bytes) (unread left new) (binary_of header (events ++ event ∷ []))) (sym same)
          (subst (Consumes (Some bytes) (unread left new)) (sym longer) (Consumes-trans (Some bytes) (unread left old) (unread left new) _ _ h.read s.2));
    }
reading_next left bytes events old new (Ok None) same counted placed s h =
    ends left bytes events old Whole (λ rest. rest ≡ []) h (at_end (unread left old) s.0) (λ rest none. (h.few, none))
reading_next left bytes events old new (Err (Malformed byte reason)) same counted placed s h =
    ends left bytes events old (Bad byte reason) (λ rest. record_reason (header_of old).version rest ≡ Some reason) h s.2
    (λ rest bad. ((rw h.counted s.0), s.1 ∙ sym h.placed, bad))
reading_next left bytes events old new (Err TooManyEvents) same counted placed s h =
    ends left bytes events old Full (λ rest. rest ≢ []) h s.1 (λ rest some. (h.counted ∙ s.0, some))
reading_next left bytes events old new (Err ReadFault) same counted placed s h = s
