-- What is made of bytes is one text, and what was given of it before a failure is a front of that.
use Rattle.std.proofs.Common.{◌≡◌, ◌++◌, ℕ, List, [], Option, None, Some, refl, sym, ap, subst, ◌∙◌, inl, inr, append-nil, append_assoc}
use Rattle.std.specs.Io.KnownBytes.{Consumes}
use Rattle.ace_event.specs.declared.event.Event.{Event}
use Rattle.ace_event.specs.declared.header.Header.{Header}
use Rattle.ace_event.specs.Text.{trace_text}
use Rattle.ace_grammar.specs.Lines.{BeginsWith}
use Rattle.ace_grammar.specs.Reading as text
use Rattle.ace_bin.specs.Reading as binary
use Rattle.ace_bin.proofs.Readings.Fronts as bf
use Rattle.ace_convert.specs.declared.conversion.Conversion.{Conversion}
use Rattle.ace_convert.specs.declared.conversion.Conversion.TheVariants.{Pack, Unpack}
use Rattle.ace_convert.specs.declared.end.TraceEnd.{TraceEnd}
use Rattle.ace_convert.specs.declared.end.TraceEnd.TheVariants.{Whole, ReadFault, NoMemory}
use Rattle.ace_convert.specs.Converted.{CanBeRead, IsConverted, ConvertsFront}
use Rattle.ace_convert.specs.Ends.{IsDueEnd}
use Rattle.ace_convert.specs.Reading.{TakesTrace}
use Rattle.ace_convert.specs.Spelling.{form_read, form_written, header_written, converted}
use Rattle.ace_convert.proofs.FormReadings.{some_reading, one_reading, apart, one_bad, front_is_read, front_is_good, spelt_further, at_fault, no_memory}

pub some_conversion : (conversion : Conversion) (bytes : List ℕ) (left : Option (List ℕ)) → CanBeRead (form_read conversion) bytes
    → (end : TraceEnd) × (text : List ℕ) × IsDueEnd end × IsConverted conversion bytes left end text
some_conversion conversion bytes left can =
    elim (some_reading (form_read conversion) bytes left can) [
      | inl (end, due, bad) ↦ (end, [], due, inl (bad, refl))
      | inr (header, events, end, due, r) ↦ (end, converted conversion header events, due, inr (header, events, r, refl))
    ]

pub one_conversion : (conversion : Conversion) (bytes : List ℕ) (left last : Option (List ℕ)) (end other : TraceEnd) (text more : List ℕ) → IsDueEnd end → IsDueEnd other
    → IsConverted conversion bytes left end text → IsConverted conversion bytes last other more → (end ≡ other) × (text ≡ more)
one_conversion conversion bytes left last end other text more d e (inl (bad, none)) (inl (worse, nothing)) =
    (one_bad (form_read conversion) bytes left last end other d e bad worse, none ∙ sym nothing)
one_conversion conversion bytes left last end other text more d e (inl (bad, none)) (inr (header, events, r, is)) =
    absurd (apart (form_read conversion) bytes last left header events other end e d r bad)
one_conversion conversion bytes left last end other text more d e (inr (header, events, r, is)) (inl (bad, none)) =
    absurd (apart (form_read conversion) bytes left last header events end other d e r bad)
one_conversion conversion bytes left last end other text more d e (inr (header, events, r, is)) (inr (header', events', s, was)) =
    let one = one_reading (form_read conversion) bytes left last header header' events events' end other d e r s in
    (one.2, is ∙ ap (λ (h : Header). converted conversion h events) one.0 ∙ ap (λ (t : List Event). converted conversion header' t) one.1 ∙ sym was)

-- what is made of a front is a front of what is due
pub front_given : (conversion : Conversion) (bytes : List ℕ) (last : Option (List ℕ)) (due : TraceEnd) (text whole : List ℕ) → CanBeRead (form_read conversion) bytes → IsDueEnd due
    → IsConverted conversion bytes last due whole → ConvertsFront conversion bytes text → BeginsWith whole text
front_given conversion bytes last due text whole can d (inl (bad, none)) (header, events, trace, front, is) =
    absurd (front_is_good (form_read conversion) bytes last header events due d trace front bad)
front_given conversion bytes last due text whole can d (inr (other, read, r, was)) (header, events, trace, front, is) =
    let f = front_is_read (form_read conversion) bytes last header other events read due can d trace front r in
    let more = spelt_further (form_written conversion) (header_written conversion header) events f.1.0 in
    (more.0, was ∙ ap (λ (h : Header). converted conversion h read) f.0 ∙ ap (λ (t : List Event). converted conversion header t) f.1.1 ∙ more.1 ∙ ap (λ t. t ++ more.0) (sym is))

nothing_given : (text whole : List ℕ) → text ≡ [] → BeginsWith whole text
nothing_given text whole none = (whole, ap (λ t. t ++ whole) (sym none))

-- what was taken stands at the front of the bytes
taken_front : (bytes text pending : List ℕ) (left : Option (List ℕ)) → Consumes (Some bytes) left (text ++ pending) → BeginsWith bytes text
taken_front bytes text pending None c = absurd c
taken_front bytes text pending (Some rest) c = (pending ++ rest, c ∙ append_assoc text pending rest)

taken_trace : (conversion : Conversion) (bytes : List ℕ) (left : Option (List ℕ)) (header : Header) (events : List Event) → TakesTrace (form_read conversion) bytes left header events
    → ConvertsFront conversion bytes (converted conversion header events)
taken_trace conversion bytes left header events (trace, (pending, holds, took)) = (header, events, trace, taken_front bytes _ pending left took, refl)

-- so is what was given where the input failed, or there was no memory
pub fault_given : (conversion : Conversion) (bytes : List ℕ) (left last : Option (List ℕ)) (due : TraceEnd) (text whole : List ℕ) → CanBeRead (form_read conversion) bytes → IsDueEnd due
    → IsConverted conversion bytes last due whole → IsConverted conversion bytes left ReadFault text → BeginsWith whole text
fault_given conversion bytes left last due text whole can d w (inl (bad, none)) = nothing_given text whole none
fault_given conversion bytes left last due text whole can d w (inr (header, events, taken, is)) =
    front_given conversion bytes last due text whole can d w (subst (λ t. ConvertsFront conversion bytes t) (sym is)
    (taken_trace conversion bytes left header events (at_fault (form_read conversion) bytes left header events taken)))

pub memory_given : (conversion : Conversion) (bytes : List ℕ) (left : Option (List ℕ)) (text whole : List ℕ) → IsConverted conversion bytes left NoMemory text → BeginsWith whole text
memory_given conversion bytes left text whole (inl (bad, none)) = nothing_given text whole none
memory_given conversion bytes left text whole (inr (header, events, r, is)) = absurd (no_memory (form_read conversion) bytes left header events r)

-- ---- there and back

-- a whole text is that of its trace
only_text : (bytes : List ℕ) (header : Header) (events : List Event) → text.Reads bytes header events text.Whole → bytes ≡ trace_text header events
only_text bytes header events r = r.text.1 ∙ ap (λ (l : List ℕ). trace_text header events ++ l) r.text.2.1 ∙ append-nil (trace_text header events)

whole_packed : (bytes packed : List ℕ) (left : Option (List ℕ)) → IsConverted Pack bytes left Whole packed
    → (header : Header) × (events : List Event) × binary.ReadsBinary packed header events binary.Whole × (bytes ≡ trace_text header events)
whole_packed bytes packed left (inl (bad, none)) = absurd bad
whole_packed bytes packed left (inr (header, events, r, is)) = (
  header,
  events,
  subst (λ (l : List ℕ). binary.ReadsBinary l header events binary.Whole) (sym is) (bf.reads_back header events r.header_is_readable r.events_are_readable r.text.2.0),
  only_text bytes header events r,
)

pub there_and_back : (bytes packed text : List ℕ) (left last : Option (List ℕ)) (end : TraceEnd) → IsDueEnd end → IsConverted Pack bytes left Whole packed
    → IsConverted Unpack packed last end text → (end ≡ Whole) × (text ≡ bytes)
there_and_back bytes packed text left last end d p u =
    let w = whole_packed bytes packed left p in
    let one = one_conversion Unpack packed last last end Whole text (trace_text w.0 w.1) d tt u (inr (w.0, w.1, w.2, refl)) in
    (one.0, one.1 ∙ sym w.3)
