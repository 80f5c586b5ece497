-- What the readers of the two forms answer, said of both.
use Rattle.std.specs.Prelude.{⊤}
use Rattle.std.proofs.Common.{◌≡◌, ◌≢◌, ◌<◌, ◌+◌, ℕ, List, Option, None, Some, Result, Ok, Err, IfErr, OnOk, refl, subst, arith}
use Rattle.std.proofs.KnownBytes.{Consumes-trans}
use Rattle.ace_event.specs.declared.event.Event.{Event}
use Rattle.ace_event.specs.Range.{InRange}
use Rattle.ace_io.specs.Faults.{Rose}
use Rattle.ace_io.specs.declared.outside.Source.{Ghosts}
use Rattle.ace_grammar.specs.declared.error.ReadErr.{ReadErr}
use Rattle.ace_grammar.specs.declared.error.ReadErr.TheVariants as te
use Rattle.ace_grammar.specs.declared.reader.Reader.{Reader}
use Rattle.ace_grammar.specs.Errors as text
use Rattle.ace_grammar.specs.Reader as tr
use Rattle.ace_grammar.specs.Reading.{most_events}
use Rattle.ace_grammar.specs.Reading as readings
use Rattle.ace_bin.specs.declared.error.BinErr.{BinErr}
use Rattle.ace_bin.specs.declared.error.BinErr.TheVariants as be
use Rattle.ace_bin.specs.declared.reader.BinReader.{BinReader}
use Rattle.ace_bin.specs.Errors as binary
use Rattle.ace_bin.specs.Reader as br
use Rattle.ace_convert.specs.Form as forms
use Rattle.ace_convert.specs.declared.end.TraceEnd.{TraceEnd}
use Rattle.ace_convert.specs.declared.end.TraceEnd.TheVariants.{Whole, BadLine, BadRecord, Full, ReadFault, NoMemory}
use Rattle.ace_convert.specs.Ends.{of_text, of_binary, with_event, text_end, binary_end, HasReadCause, HasNoTrace}
use Rattle.ace_convert.specs.Reading.{IsReading}

-- ---- causes

-- the count stays, where the input didn't fail
pub stays : (before now : ℕ) (end : TraceEnd) → end ≢ ReadFault → now ≡ before → HasReadCause before now end
stays before now end other same = record { failed = λ is. absurd (other is); steady = λ not. same }

-- it rose
pub rose : (before now : ℕ) → Rose before now → HasReadCause before now ReadFault
rose before now up = record { failed = λ is. up; steady = λ not. absurd (not refl) }

-- ---- no header

pub text_none : (e : ReadErr) (old new : Option (List ℕ)) (before now : ℕ) → text.HasNoHeader e old before new now → HasNoTrace forms.Text (text_end e) old new
text_none (te.Malformed line reason) None new before now n = (λ is. absurd cc, tt)
text_none (te.Malformed line reason) (Some bytes) new before now n = (λ is. absurd cc, n.0)
text_none te.TooManyEvents old new before now n = absurd n
text_none te.ReadFault None new before now n = (λ is. absurd cc, tt)
text_none te.ReadFault (Some bytes) new before now n = (λ is. absurd cc, n.0)
text_none te.NoMemory None new before now n = (λ is. absurd cc, tt)
text_none te.NoMemory (Some bytes) new before now n = (λ is. absurd cc, tt)

pub text_none_cause : (e : ReadErr) (old new : Option (List ℕ)) (before now : ℕ) → text.HasNoHeader e old before new now → HasReadCause before now (text_end e)
text_none_cause (te.Malformed line reason) old new before now n = stays before now (BadLine line reason) (λ is. absurd cc) n.2
text_none_cause te.TooManyEvents old new before now n = absurd n
text_none_cause te.ReadFault old new before now n = rose before now n.1
text_none_cause te.NoMemory old new before now n = stays before now NoMemory (λ is. absurd cc) n.1

pub binary_none : (e : BinErr) (old new : Option (List ℕ)) (before now : ℕ) → binary.HasNoHeader e old before new now
    → HasNoTrace forms.Binary (binary_end e) old new
binary_none (be.Malformed byte reason) None new before now n = (λ is. absurd cc, tt)
binary_none (be.Malformed byte reason) (Some bytes) new before now n = (λ is. absurd cc, n.0)
binary_none be.TooManyEvents old new before now n = absurd n
binary_none be.ReadFault None new before now n = (λ is. absurd cc, tt)
binary_none be.ReadFault (Some bytes) new before now n = (λ is. absurd cc, n.0)

pub binary_none_cause : (e : BinErr) (old new : Option (List ℕ)) (before now : ℕ) → binary.HasNoHeader e old before new now
    → HasReadCause before now (binary_end e)
binary_none_cause (be.Malformed byte reason) old new before now n = stays before now (BadRecord byte reason) (λ is. absurd cc) n.2
binary_none_cause be.TooManyEvents old new before now n = absurd n
binary_none_cause be.ReadFault old new before now n = rose before now n.1

pub ruleset starting = (text_none, text_none_cause, binary_none, binary_none_cause)

-- ---- the next event of a text

pub text_range : (event : Event) (r : Result (Option ⊤) ReadErr) (most version count : ℕ) (old new left : Option (List ℕ))
    → text.StandsNextWithin most version (text.with_event event r) count old new left
    → OnOk (of_text r) (InRange version event)
text_range event (Ok (Some put)) most version count old new left s = s.1
text_range event (Ok None) most version count old new left s = tt
text_range event (Err error) most version count old new left s = tt

pub text_room : (event : Event) (r : Result (Option ⊤) ReadErr) (most version count : ℕ) (old new left : Option (List ℕ))
    → most ≡ most_events → text.StandsNextWithin most version (text.with_event event r) count old new left
    → OnOk (of_text r) (count < most_events)
text_room event (Ok (Some put)) most version count old new left is s = omega (arith, is, s.0)
text_room event (Ok None) most version count old new left is s = tt
text_room event (Err error) most version count old new left is s = tt

pub text_count : (event : Event) (r : Result (Option ⊤) ReadErr) (count count' : ℕ) → count' ≡ tr.count_after count (text.with_event event r)
    → OnOk (of_text r) (count' ≡ count + 1)
text_count event (Ok (Some put)) count count' is = is
text_count event (Ok None) count count' is = tt
text_count event (Err error) count count' is = tt

pub text_on : (event : Event) (r : Result (Option ⊤) ReadErr) (last : Option (Result (Option Event) ReadErr)) → last ≡ tr.lasting (text.with_event event r)
    → OnOk (of_text r) (last ≡ None)
text_on event (Ok (Some put)) last is = is
text_on event (Ok None) last is = tt
text_on event (Err error) last is = tt

pub text_nothing : (event : Event) (r : Result (Option ⊤) ReadErr) (most version count : ℕ) (old new left : Option (List ℕ)) → of_text r ≡ Err Whole
    → text.StandsNextWithin most version (text.with_event event r) count old new left
    → text.LeavesNothing old left
text_nothing event (Ok (Some put)) most version count old new left is s = absurd cc
text_nothing event (Ok None) most version count old new left is s = s.2
text_nothing event (Err (te.Malformed line reason)) most version count old new left is s = absurd cc
text_nothing event (Err te.TooManyEvents) most version count old new left is s = absurd cc
text_nothing event (Err te.ReadFault) most version count old new left is s = absurd cc
text_nothing event (Err te.NoMemory) most version count old new left is s = absurd cc

pub text_memory : (event : Event) (r : Result (Option ⊤) ReadErr) (most version count : ℕ) (old new left : Option (List ℕ))
    → text.StandsNextWithin most version (text.with_event event r) count old new left → of_text r ≢ Err NoMemory
text_memory event (Ok (Some put)) most version count old new left s is = absurd cc
text_memory event (Ok None) most version count old new left s is = absurd cc
text_memory event (Err (te.Malformed line reason)) most version count old new left s is = absurd cc
text_memory event (Err te.TooManyEvents) most version count old new left s is = absurd cc
text_memory event (Err te.ReadFault) most version count old new left s is = absurd cc
text_memory event (Err te.NoMemory) most version count old new left s is = absurd s

pub text_steady : (event : Event) (r : Result (Option ⊤) ReadErr) (before now : ℕ) → text.HasFaultCause (text.with_event event r) before now
    → OnOk (of_text r) (now ≡ before)
text_steady event (Ok (Some put)) before now c = c
text_steady event (Ok None) before now c = tt
text_steady event (Err error) before now c = tt

pub text_cause : (event : Event) (r : Result (Option ⊤) ReadErr) (before now : ℕ) → text.HasFaultCause (text.with_event event r) before now
    → IfErr (of_text r) (HasReadCause before now)
text_cause event (Ok (Some put)) before now c = tt
text_cause event (Ok None) before now c = stays before now Whole (λ is. absurd cc) c
text_cause event (Err (te.Malformed line reason)) before now c = stays before now (BadLine line reason) (λ is. absurd cc) c
text_cause event (Err te.TooManyEvents) before now c = stays before now Full (λ is. absurd cc) c
text_cause event (Err te.ReadFault) before now c = rose before now c
text_cause event (Err te.NoMemory) before now c = stays before now NoMemory (λ is. absurd cc) c

pub text_reads : {S : Type 0} {g : Ghosts S} (left : S → Option (List ℕ)) (bytes : List ℕ) (events : List Event) (old new : Reader S g) (event : Event) (r : Result (Option ⊤) ReadErr)
    → tr.most_of old ≡ most_events → tr.HasRead left bytes events old → tr.IsReading left bytes events old new (text.with_event event r)
    → IsReading forms.Text (λ more. tr.HasRead left bytes more new) bytes (left (tr.source_of new).now) (tr.header_of old) events (with_event event (of_text r))
text_reads left bytes events old new event (Ok (Some put)) most h i = i
text_reads left bytes events old new event (Ok None) most h i = subst (λ n. readings.ReadsWithin n bytes (tr.header_of old) events readings.Whole) most i
text_reads left bytes events old new event (Err (te.Malformed line reason)) most h i = subst (λ n. readings.ReadsWithin n bytes (tr.header_of old) events (readings.Bad line reason)) most i
text_reads left bytes events old new event (Err te.TooManyEvents) most h i = subst (λ n. readings.ReadsWithin n bytes (tr.header_of old) events readings.Full) most i
text_reads left bytes events old new event (Err te.ReadFault) most h (taken, none, short, took) = (
  record { header_is_right = h.header_is_readable; events_in_range = h.events_are_readable; few = omega (arith, most, h.few) },
  (taken, (none, short), Consumes-trans (Some bytes) (tr.unread left old) (left (tr.source_of new).now) _ _ h.text took),
)
text_reads left bytes events old new event (Err te.NoMemory) most h i = absurd i

-- ---- the next event of a binary trace

pub binary_range : (event : Event) (r : Result (Option ⊤) BinErr) (version count place : ℕ) (old new left : Option (List ℕ))
    → binary.StandsNext version (binary.with_event event r) count place old new left
    → OnOk (of_binary r) (InRange version event)
binary_range event (Ok (Some put)) version count place old new left s = s.1
binary_range event (Ok None) version count place old new left s = tt
binary_range event (Err error) version count place old new left s = tt

pub binary_room : (event : Event) (r : Result (Option ⊤) BinErr) (version count place : ℕ) (old new left : Option (List ℕ))
    → binary.StandsNext version (binary.with_event event r) count place old new left
    → OnOk (of_binary r) (count < most_events)
binary_room event (Ok (Some put)) version count place old new left s = s.0
binary_room event (Ok None) version count place old new left s = tt
binary_room event (Err error) version count place old new left s = tt

pub binary_count : (event : Event) (r : Result (Option ⊤) BinErr) (count count' : ℕ) → count' ≡ br.count_after count (binary.with_event event r)
    → OnOk (of_binary r) (count' ≡ count + 1)
binary_count event (Ok (Some put)) count count' is = is
binary_count event (Ok None) count count' is = tt
binary_count event (Err error) count count' is = tt

pub binary_on : (event : Event) (r : Result (Option ⊤) BinErr) (last : Option (Result (Option Event) BinErr)) → last ≡ br.lasting (binary.with_event event r)
    → OnOk (of_binary r) (last ≡ None)
binary_on event (Ok (Some put)) last is = is
binary_on event (Ok None) last is = tt
binary_on event (Err error) last is = tt

pub binary_nothing : (event : Event) (r : Result (Option ⊤) BinErr) (version count place : ℕ) (old new left : Option (List ℕ)) → of_binary r ≡ Err Whole
    → binary.StandsNext version (binary.with_event event r) count place old new left → text.LeavesNothing old left
binary_nothing event (Ok (Some put)) version count place old new left is s = absurd cc
binary_nothing event (Ok None) version count place None new left is s = s.2
binary_nothing event (Ok None) version count place (Some bytes) new left is s = s.2
binary_nothing event (Err (be.Malformed byte reason)) version count place old new left is s = absurd cc
binary_nothing event (Err be.TooManyEvents) version count place old new left is s = absurd cc
binary_nothing event (Err be.ReadFault) version count place old new left is s = absurd cc

pub binary_memory : (r : Result (Option ⊤) BinErr) → of_binary r ≢ Err NoMemory
binary_memory (Ok (Some put)) is = absurd cc
binary_memory (Ok None) is = absurd cc
binary_memory (Err (be.Malformed byte reason)) is = absurd cc
binary_memory (Err be.TooManyEvents) is = absurd cc
binary_memory (Err be.ReadFault) is = absurd cc

pub binary_steady : (event : Event) (r : Result (Option ⊤) BinErr) (before now : ℕ) → binary.HasFaultCause (binary.with_event event r) before now
    → OnOk (of_binary r) (now ≡ before)
binary_steady event (Ok (Some put)) before now c = c
binary_steady event (Ok None) before now c = tt
binary_steady event (Err error) before now c = tt

pub binary_cause : (event : Event) (r : Result (Option ⊤) BinErr) (before now : ℕ) → binary.HasFaultCause (binary.with_event event r) before now
    → IfErr (of_binary r) (HasReadCause before now)
binary_cause event (Ok (Some put)) before now c = tt
binary_cause event (Ok None) before now c = stays before now Whole (λ is. absurd cc) c
binary_cause event (Err (be.Malformed byte reason)) before now c = stays before now (BadRecord byte reason) (λ is. absurd cc) c
binary_cause event (Err be.TooManyEvents) before now c = stays before now Full (λ is. absurd cc) c
binary_cause event (Err be.ReadFault) before now c = rose before now c

pub binary_reads : {S : Type 0} {g : Ghosts S} (left : S → Option (List ℕ)) (bytes : List ℕ) (events : List Event) (old new : BinReader S g) (event : Event) (r : Result (Option ⊤) BinErr)
    → br.HasRead left bytes events old → br.IsReading left bytes events old new (binary.with_event event r)
    → IsReading forms.Binary (λ more. br.HasRead left bytes more new) bytes (left (br.source_of new).now) (br.header_of old) events (with_event event (of_binary r))
binary_reads left bytes events old new event (Ok (Some put)) h i = i
binary_reads left bytes events old new event (Ok None) h i = i
binary_reads left bytes events old new event (Err (be.Malformed byte reason)) h i = i
binary_reads left bytes events old new event (Err be.TooManyEvents) h i = i
binary_reads left bytes events old new event (Err be.ReadFault) h (taken, took, none) = (
  record { header_is_right = h.header_is_right; events_in_range = h.events_in_range; few = h.few },
  (taken, none, Consumes-trans (Some bytes) (br.unread left old) (left (br.source_of new).now) _ _ h.read took),
)

pub ruleset reading = (
  text_range,
  text_room,
  text_count,
  text_on,
  text_nothing,
  text_memory,
  text_steady,
  text_cause,
  text_reads,
  binary_range,
  binary_room,
  binary_count,
  binary_on,
  binary_nothing,
  binary_memory,
  binary_steady,
  binary_cause,
  binary_reads,
)
