-- One answer more of a reader, as a reading of the bytes.
use Rattle.std.proofs.Common.{◌≡◌, ◌≢◌, ◌+◌, ◌++◌, ℕ, List, [], ◌∷◌, Option, Some, None, Result, Ok, Err, IfSome, sym, ap, subst, ◌∙◌, append-nil, arith}
use Rattle.std.specs.List.{AllByRecursion}
use Rattle.std.specs.Io.KnownBytes.{Consumes}
use Rattle.std.proofs.KnownBytes.{Consumes-trans}
use Rattle.std.proofs.lemmas.List.{length-append}
use Rattle.ace_event.specs.declared.event.Event.{Event}
use Rattle.ace_event.specs.declared.header.Header.{Header}
use Rattle.ace_event.specs.Text.{trace_text, header_text}
use Rattle.ace_io.specs.declared.outside.Source.{Ghosts}
use Rattle.ace_grammar.specs.declared.error.ReadErr.{ReadErr}
use Rattle.ace_grammar.specs.declared.error.ReadErr.TheVariants.{Malformed, TooManyEvents, ReadFault, NoMemory}
use Rattle.ace_grammar.specs.declared.reader.Reader.{Reader}
use Rattle.ace_grammar.specs.Errors.{StandsNextWithin}
use Rattle.ace_grammar.specs.Reader.{HasRead, IsReading, source_of, unread, header_of, most_of, count_of, count_after}
use Rattle.ace_grammar.proofs.Readings.OneMore.{readable-more, trace_text-more}
use Rattle.ace_grammar.proofs.Readings.Taken.{reads_to, at_end}
use Rattle.ace_grammar.specs.Reading.{ReadsWithin, Ending, EndsWithin, Whole, Full, Bad, IsReadable, IsReadableHeader, HasBadLine, IfTold}

-- the bytes end so
ends : {S : Type 0} {g : Ghosts S} (left : S → Option (List ℕ)) (bytes : List ℕ) (events : List Event) (reader : Reader S g) (ending : Ending) (P : List ℕ → Type 0)
    → HasRead left bytes events reader → IfTold (unread left reader) P → ((rest : List ℕ) → P rest → EndsWithin (most_of reader) (header_of reader).version ending events rest) → ReadsWithin (most_of reader) bytes (header_of reader) events ending
ends left bytes events reader ending P h p end =
    reads_to bytes (header_of reader) events (unread left reader) ending P h.header_is_readable h.events_are_readable h.text p end

-- nothing was read but the header
pub read_header_alone : {S : Type 0} {g : Ghosts S} (left : S → Option (List ℕ)) (old : Option (List ℕ)) (reader : Reader S g)
    → IsReadableHeader (header_of reader) → Consumes old (unread left reader) (header_text (header_of reader)) → count_of reader ≡ 0
    → IfSome old (λ bytes. HasRead left bytes [] reader)
read_header_alone left None reader readable text none = tt
read_header_alone left (Some bytes) reader readable text none =
    record { header_is_readable = readable; events_are_readable = tt; few = omega arith; counted = sym none; text = rw append-nil text }

-- one answer more
pub reading_next : {S : Type 0} {g : Ghosts S} (left : S → Option (List ℕ)) (bytes : List ℕ) (events : List Event) (old new : Reader S g) (result : Result (Option Event) ReadErr)
    → header_of new ≡ header_of old → most_of new ≡ most_of old → count_of new ≡ count_after (count_of old) result
    → StandsNextWithin (most_of old) (header_of old).version result (count_of old) (unread left old) (unread left new) (left (source_of new).now)
    → HasRead left bytes events old → IsReading left bytes events old new result
reading_next left bytes events old new (Ok (Some event)) same mosts counted s h = record {
  header_is_readable = subst IsReadableHeader (sym same) h.header_is_readable;
  events_are_readable = subst (λ (header : Header). AllByRecursion (IsReadable header.version) (events ++ event ∷ [])) (sym same)
      (readable-more (header_of old).version events event h.events_are_readable s.1);
  few = rw (length-append, mosts) (omega (arith, h.counted, s.0));
  counted = length-append events (event ∷ []) ∙ ap (λ n. n + 1) h.counted ∙ sym counted;
  text = subst (λ (header : Header). Consumes (Some bytes) (unread left new) (trace_text header (events ++ event ∷ []))) (sym same)
      (subst (Consumes (Some bytes) (unread left new)) (sym (trace_text-more (header_of old) events event)) (Consumes-trans (Some bytes) (unread left old) (unread left new) _ _ h.text s.2));
}
reading_next left bytes events old new (Ok None) same mosts counted s h =
    ends left bytes events old Whole (λ rest. rest ≡ []) h (at_end (unread left old) s.0) (λ rest none. (h.few, none))
reading_next left bytes events old new (Err (Malformed line reason)) same mosts counted s h =
    ends left bytes events old (Bad line reason) (λ rest. HasBadLine (header_of old).version rest reason) h s.2 (λ rest bad. ((rw h.counted s.0), (rw h.counted s.1), bad))
reading_next left bytes events old new (Err TooManyEvents) same mosts counted s h =
    ends left bytes events old Full (λ rest. rest ≢ []) h s.1 (λ rest some. (h.counted ∙ s.0, some))
reading_next left bytes events old new (Err ReadFault) same mosts counted s h = s
reading_next left bytes events old new (Err NoMemory) same mosts counted s h = absurd s

pub ruleset progress = (read_header_alone, reading_next)
