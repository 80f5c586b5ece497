-- The readings of bytes as a trace of either form: there is one that the bytes tell, and no second one.
use Rattle.std.proofs.Common.{◌≡◌, ◌++◌, ◌⊎◌, ℕ, List, Option, refl, sym, ap, ◌∙◌, inl, inr}
use Rattle.ace_event.specs.declared.event.Event.{Event}
use Rattle.ace_event.specs.declared.header.Header.{Header}
use Rattle.ace_event.specs.Text.{events_text}
use Rattle.ace_grammar.specs.declared.reason.Reason.{Reason}
use Rattle.ace_bin.specs.declared.reason.BinReason.{BinReason}
use Rattle.ace_grammar.specs.Lines.{BeginsWith}
use Rattle.ace_grammar.specs.Reading as text
use Rattle.ace_grammar.proofs.Readings.EveryReading as ts
use Rattle.ace_grammar.proofs.Readings.Fronts as tf
use Rattle.ace_grammar.proofs.Readings.OneReading as to
use Rattle.ace_bin.specs.Reading as binary
use Rattle.ace_bin.specs.Binary.{events_bytes}
use Rattle.ace_bin.proofs.Readings.EveryReading as bs
use Rattle.ace_bin.proofs.Readings.Fronts as bf
use Rattle.ace_bin.proofs.Readings.OneReading as bo
use Rattle.ace_convert.specs.Form.{Form, Text, Binary}
use Rattle.ace_convert.specs.declared.end.TraceEnd.{TraceEnd}
use Rattle.ace_convert.specs.declared.end.TraceEnd.TheVariants.{Whole, BadLine, BadRecord, Full, ReadFault, NoMemory}
use Rattle.ace_convert.specs.Converted.{CanBeRead}
use Rattle.ace_convert.specs.Ends.{IsDueEnd}
use Rattle.ace_convert.specs.Reading.{IsTrace, TakesTrace, ReadsTo, ReadsNoHeader}
use Rattle.ace_convert.specs.Spelling.{spelt}

-- how the reading of a text ends
abbrev pub of_text_ending : text.Ending → TraceEnd
of_text_ending text.Whole = Whole
of_text_ending text.Full = Full
of_text_ending (text.Bad line reason) = BadLine line reason

abbrev pub of_binary_ending : binary.Ending → TraceEnd
of_binary_ending binary.Whole = Whole
of_binary_ending binary.Full = Full
of_binary_ending (binary.Bad byte reason) = BadRecord byte reason

-- a reading in which the input didn't fail is one of the form
text_of : (bytes : List ℕ) (left : Option (List ℕ)) (header : Header) (events : List Event) (end : TraceEnd) → IsDueEnd end → ReadsTo Text bytes left header events end
    → (ending : text.Ending) × text.Reads bytes header events ending × (end ≡ of_text_ending ending)
text_of bytes left header events Whole d r = (text.Whole, r, refl)
text_of bytes left header events (BadLine line reason) d r = (text.Bad line reason, r, refl)
text_of bytes left header events (BadRecord byte reason) d r = absurd r
text_of bytes left header events Full d r = (text.Full, r, refl)
text_of bytes left header events ReadFault d r = absurd d
text_of bytes left header events NoMemory d r = absurd d

binary_of : (bytes : List ℕ) (left : Option (List ℕ)) (header : Header) (events : List Event) (end : TraceEnd) → IsDueEnd end → ReadsTo Binary bytes left header events end
    → (ending : binary.Ending) × binary.ReadsBinary bytes header events ending × (end ≡ of_binary_ending ending)
binary_of bytes left header events Whole d r = (binary.Whole, r, refl)
binary_of bytes left header events (BadLine line reason) d r = absurd r
binary_of bytes left header events (BadRecord byte reason) d r = (binary.Bad byte reason, r, refl)
binary_of bytes left header events Full d r = (binary.Full, r, refl)
binary_of bytes left header events ReadFault d r = absurd d
binary_of bytes left header events NoMemory d r = absurd d

-- and the other way round
text_to : (bytes : List ℕ) (left : Option (List ℕ)) (header : Header) (events : List Event) (ending : text.Ending) → text.Reads bytes header events ending
    → IsDueEnd (of_text_ending ending) × ReadsTo Text bytes left header events (of_text_ending ending)
text_to bytes left header events text.Whole r = (tt, r)
text_to bytes left header events text.Full r = (tt, r)
text_to bytes left header events (text.Bad line reason) r = (tt, r)

binary_to : (bytes : List ℕ) (left : Option (List ℕ)) (header : Header) (events : List Event) (ending : binary.Ending) → binary.ReadsBinary bytes header events ending
    → IsDueEnd (of_binary_ending ending) × ReadsTo Binary bytes left header events (of_binary_ending ending)
binary_to bytes left header events binary.Whole r = (tt, r)
binary_to bytes left header events binary.Full r = (tt, r)
binary_to bytes left header events (binary.Bad byte reason) r = (tt, r)

-- there is a reading
abbrev pub SomeReading : Form → List ℕ → Option (List ℕ) → Type 0
SomeReading form bytes left = ((end : TraceEnd) × IsDueEnd end × ReadsNoHeader form bytes left end)
    ⊎ ((header : Header) × (events : List Event) × (end : TraceEnd) × IsDueEnd end × ReadsTo form bytes left header events end)

pub some_reading : (form : Form) (bytes : List ℕ) (left : Option (List ℕ)) → CanBeRead form bytes → SomeReading form bytes left
some_reading Text bytes left can =
    elim (ts.some_reading bytes) [
      | inl (line, reason, bad) ↦ inl (BadLine line reason, tt, bad)
      | inr (header, events, ending, r) ↦ (let t = text_to bytes left header events ending r in inr (header, events, of_text_ending ending, t.0, t.1))
    ]
some_reading Binary bytes left can =
    elim (bs.some_reading bytes can) [
      | inl (byte, reason, bad) ↦ inl (BadRecord byte reason, tt, bad)
      | inr (header, events, ending, r) ↦ (let t = binary_to bytes left header events ending r in inr (header, events, of_binary_ending ending, t.0, t.1))
    ]

-- and no second one
pub one_reading : (form : Form) (bytes : List ℕ) (left last : Option (List ℕ)) (header other : Header) (events others : List Event) (end ending : TraceEnd) → IsDueEnd end → IsDueEnd ending
    → ReadsTo form bytes left header events end → ReadsTo form bytes last other others ending → (header ≡ other) × (events ≡ others) × (end ≡ ending)
one_reading Text bytes left last header other events others end ending d e r s =
    let p = text_of bytes left header events end d r in
    let q = text_of bytes last other others ending e s in
    let one = to.one_reading bytes header other events others p.0 q.0 p.1 q.1 in
    (one.0, one.1, p.2 ∙ ap of_text_ending one.2 ∙ sym q.2)
one_reading Binary bytes left last header other events others end ending d e r s =
    let p = binary_of bytes left header events end d r in
    let q = binary_of bytes last other others ending e s in
    let one = bo.one_reading bytes header other events others p.0 q.0 p.1 q.1 in
    (one.0, one.1, p.2 ∙ ap of_binary_ending one.2 ∙ sym q.2)

no_header_text : (bytes : List ℕ) (left : Option (List ℕ)) (header : Header) (events : List Event) (ending : text.Ending) (end : TraceEnd) → IsDueEnd end
    → text.Reads bytes header events ending → ReadsNoHeader Text bytes left end → ⊥
no_header_text bytes left header events ending Whole d r bad = bad
no_header_text bytes left header events ending (BadLine line reason) d r bad = to.no_bad_header bytes header events ending line reason r bad
no_header_text bytes left header events ending (BadRecord byte reason) d r bad = bad
no_header_text bytes left header events ending Full d r bad = bad
no_header_text bytes left header events ending ReadFault d r bad = d
no_header_text bytes left header events ending NoMemory d r bad = d

no_header_binary : (bytes : List ℕ) (left : Option (List ℕ)) (header : Header) (events : List Event) (ending : binary.Ending) (end : TraceEnd) → IsDueEnd end
    → binary.ReadsBinary bytes header events ending → ReadsNoHeader Binary bytes left end → ⊥
no_header_binary bytes left header events ending Whole d r bad = bad
no_header_binary bytes left header events ending (BadLine line reason) d r bad = bad
no_header_binary bytes left header events ending (BadRecord byte reason) d r bad = bo.no_bad_header bytes header events ending byte reason r bad
no_header_binary bytes left header events ending Full d r bad = bad
no_header_binary bytes left header events ending ReadFault d r bad = d
no_header_binary bytes left header events ending NoMemory d r bad = d

pub apart : (form : Form) (bytes : List ℕ) (left last : Option (List ℕ)) (header : Header) (events : List Event) (end ending : TraceEnd) → IsDueEnd end → IsDueEnd ending
    → ReadsTo form bytes left header events end → ReadsNoHeader form bytes last ending → ⊥
apart Text bytes left last header events end ending d e r bad =
    let p = text_of bytes left header events end d r in
    no_header_text bytes last header events p.0 ending e p.1 bad
apart Binary bytes left last header events end ending d e r bad =
    let p = binary_of bytes left header events end d r in
    no_header_binary bytes last header events p.0 ending e p.1 bad

-- what a malformed header of a text is
bad_text : (bytes : List ℕ) (left : Option (List ℕ)) (end : TraceEnd) → IsDueEnd end → ReadsNoHeader Text bytes left end → (line : ℕ) × (reason : Reason) × text.HasBadHeader bytes line reason × (end ≡ BadLine line reason)
bad_text bytes left Whole d bad = absurd bad
bad_text bytes left (BadLine line reason) d bad = (line, reason, bad, refl)
bad_text bytes left (BadRecord byte reason) d bad = absurd bad
bad_text bytes left Full d bad = absurd bad
bad_text bytes left ReadFault d bad = absurd d
bad_text bytes left NoMemory d bad = absurd d

bad_binary : (bytes : List ℕ) (left : Option (List ℕ)) (end : TraceEnd) → IsDueEnd end → ReadsNoHeader Binary bytes left end
    → (byte : ℕ) × (reason : BinReason) × binary.HasBadHeader bytes byte reason × (end ≡ BadRecord byte reason)
bad_binary bytes left Whole d bad = absurd bad
bad_binary bytes left (BadLine line reason) d bad = absurd bad
bad_binary bytes left (BadRecord byte reason) d bad = (byte, reason, bad, refl)
bad_binary bytes left Full d bad = absurd bad
bad_binary bytes left ReadFault d bad = absurd d
bad_binary bytes left NoMemory d bad = absurd d

pub one_bad : (form : Form) (bytes : List ℕ) (left last : Option (List ℕ)) (end ending : TraceEnd) → IsDueEnd end → IsDueEnd ending → ReadsNoHeader form bytes left end
    → ReadsNoHeader form bytes last ending → end ≡ ending
one_bad Text bytes left last end ending d e bad worse =
    let p = bad_text bytes left end d bad in
    let q = bad_text bytes last ending e worse in
    let one = to.one_bad_header bytes p.0 q.0 p.1 q.1 p.2 q.2 in
    p.3 ∙ ap (λ line. BadLine line p.1) one.0 ∙ ap (λ (reason : Reason). BadLine q.0 reason) one.1 ∙ sym q.3
one_bad Binary bytes left last end ending d e bad worse =
    let p = bad_binary bytes left end d bad in
    let q = bad_binary bytes last ending e worse in
    let one = bo.one_bad_header bytes p.0 q.0 p.1 q.1 p.2 q.2 in
    p.3 ∙ ap (λ byte. BadRecord byte p.1) one.0 ∙ ap (λ (reason : BinReason). BadRecord q.0 reason) one.1 ∙ sym q.3

-- what stands whole at the front is a front of what is read
pub front_is_read : (form : Form) (bytes : List ℕ) (left : Option (List ℕ)) (header other : Header) (events read : List Event) (end : TraceEnd) → CanBeRead form bytes → IsDueEnd end
    → IsTrace header events → BeginsWith bytes (spelt form header events) → ReadsTo form bytes left other read end → (other ≡ header) × ((more : List Event) × (read ≡ events ++ more))
front_is_read Text bytes left header other events read end can d t front r =
    let p = text_of bytes left other read end d r in
    tf.front_is_read bytes header other events read p.0 t.header_is_right t.events_in_range t.few front p.1
front_is_read Binary bytes left header other events read end can d t front r =
    let p = binary_of bytes left other read end d r in
    bf.front_is_read bytes header other events read p.0 can t.header_is_right t.events_in_range t.few front p.1

pub front_is_good : (form : Form) (bytes : List ℕ) (left : Option (List ℕ)) (header : Header) (events : List Event) (end : TraceEnd) → IsDueEnd end
    → IsTrace header events → BeginsWith bytes (spelt form header events) → ReadsNoHeader form bytes left end → ⊥
front_is_good Text bytes left header events end d t front bad =
    let p = bad_text bytes left end d bad in
    tf.front_is_good bytes header events p.0 p.1 t.header_is_right t.events_in_range t.few front p.2
front_is_good Binary bytes left header events end d t front bad =
    let p = bad_binary bytes left end d bad in
    bf.front_is_good bytes header events p.0 p.1 t.header_is_right front p.2

-- more events, more bytes
pub spelt_further : (form : Form) (header : Header) (events more : List Event) → (rest : List ℕ) × (spelt form header (events ++ more) ≡ spelt form header events ++ rest)
spelt_further Text header events more = (events_text header.version more, tf.trace_text-append header events more)
spelt_further Binary header events more = (events_bytes more, bf.binary_of-append header events more)

-- a reading at a fault, and none for want of memory
pub at_fault : (form : Form) (bytes : List ℕ) (left : Option (List ℕ)) (header : Header) (events : List Event) → ReadsTo form bytes left header events ReadFault → TakesTrace form bytes left header events
at_fault Text bytes left header events t = t
at_fault Binary bytes left header events t = t

pub no_memory : (form : Form) (bytes : List ℕ) (left : Option (List ℕ)) (header : Header) (events : List Event) → ReadsTo form bytes left header events NoMemory → ⊥
no_memory Text bytes left header events r = r
no_memory Binary bytes left header events r = r
