-- A trace is read in one form and written in another.
use Rattle.std.specs.Prelude.{⊤}
use Rattle.std.proofs.Common.{◌≡◌, ◌++◌, ℕ, List, [], ◌∷◌, Option, None, Some, Result, Ok, Err, IfSome, refl, sym, ap, subst, ◌∙◌, inl, inr, append-nil, arith}
use Rattle.std.specs.Io.KnownBytes.{Appends, Consumes}
use Rattle.std.proofs.KnownBytes.{Appends-nil}
use Rattle.ace_event.specs.declared.event.Event.{Event}
use Rattle.ace_event.specs.declared.header.Header.{Header}
use Rattle.ace_event.specs.Text.{header_text}
use Rattle.ace_io.specs.Faults.{HasCause}
use Rattle.ace_io.specs.declared.outside.Failed.{Failed}
use Rattle.ace_io.specs.declared.outside.Source.{Ghosts}
use Rattle.ace_grammar.specs.declared.reader.Reader.{Reader}
use Rattle.ace_grammar.specs.declared.error.ReadErr.{ReadErr}
use Rattle.ace_grammar.specs.Errors as text
use Rattle.ace_grammar.specs.Errors.{LeavesNothing}
use Rattle.ace_bin.specs.declared.error.BinErr.{BinErr}
use Rattle.ace_bin.specs.Errors as binary
use Rattle.ace_grammar.specs.Lines.{BeginsWith}
use Rattle.ace_grammar.specs.Reader as tr
use Rattle.ace_grammar.specs.Reading.{most_events}
use Rattle.ace_grammar.proofs.Readings.OneMore.{trace_text-more}
use Rattle.ace_bin.specs.declared.reader.BinReader.{BinReader}
use Rattle.ace_bin.specs.Binary.{header_bytes}
use Rattle.ace_bin.specs.Reader as br
use Rattle.ace_bin.proofs.Readings.Fronts.{binary_of-more}
use Rattle.ace_convert.specs.declared.conversion.Conversion.{Conversion}
use Rattle.ace_convert.specs.Form.{Form}
use Rattle.ace_convert.specs.Form as forms
use Rattle.ace_convert.specs.declared.end.TraceEnd.{TraceEnd}
use Rattle.ace_convert.specs.declared.end.TraceEnd.TheVariants.{Whole}
use Rattle.ace_convert.specs.Converted.{IsConverted, ConvertsFront, HasConverted}
use Rattle.ace_convert.specs.Ends.{HasReadCause, HasNoTrace, text_end, binary_end}
use Rattle.ace_convert.specs.Output.{AppendsPart}
use Rattle.ace_convert.specs.Reading.{IsTrace, IsReading, ReadsTo}
use Rattle.ace_convert.specs.Spelling.{spelt, event_spelt, form_read, form_written, header_written, converted}
use Rattle.ace_convert.proofs.ReaderLemmas.{text_none, text_none_cause, binary_none, binary_none_cause}

-- ---- what was read

-- Of the bytes this trace was read, and these are left.
pub record HasRead (form : Form) (bytes : List ℕ) (unread : Option (List ℕ)) (header : Header) (events : List Event) : Type 0 where
  trace : IsTrace header events
  text : Consumes (Some bytes) unread (spelt form header events)

pub text_read : {S : Type 0} {g : Ghosts S} (left : S → Option (List ℕ)) (bytes : List ℕ) (events : List Event) (r : Reader S g) (header : Header)
    → tr.header_of r ≡ header → tr.most_of r ≡ most_events → tr.HasRead left bytes events r → HasRead forms.Text bytes (tr.unread left r) header events
text_read left bytes events r header is most h =
    subst (λ (d : Header). HasRead forms.Text bytes (tr.unread left r) d events) is
    (record { trace = record { header_is_right = h.header_is_readable; events_in_range = h.events_are_readable; few = omega (arith, most, h.few) }; text = h.text })

pub binary_read : {S : Type 0} {g : Ghosts S} (left : S → Option (List ℕ)) (bytes : List ℕ) (events : List Event) (r : BinReader S g) (header : Header)
    → br.header_of r ≡ header → br.HasRead left bytes events r → HasRead forms.Binary bytes (br.unread left r) header events
binary_read left bytes events r header is h =
    subst (λ (d : Header). HasRead forms.Binary bytes (br.unread left r) d events) is
    (record { trace = record { header_is_right = h.header_is_right; events_in_range = h.events_in_range; few = h.few }; text = h.read })

front : (bytes text : List ℕ) (left : Option (List ℕ)) → Consumes (Some bytes) left text → BeginsWith bytes text
front bytes text None c = absurd c
front bytes text (Some rest) c = (rest, c)

-- what is made of it, where bytes begin with it
front_converted : (told unread : Option (List ℕ)) (conversion : Conversion) (header : Header) (events : List Event)
    → IfSome told (λ bytes. HasRead (form_read conversion) bytes unread header events)
    → IfSome told (λ bytes. ConvertsFront conversion bytes (converted conversion header events))
front_converted None unread conversion header events h = tt
front_converted (Some bytes) unread conversion header events h = (header, events, h.trace, front bytes _ unread h.text, refl)

-- nothing is left of what was told
nothing_behind : (bytes text : List ℕ) (mid left : Option (List ℕ)) → Consumes (Some bytes) mid text → LeavesNothing mid left → LeavesNothing (Some bytes) left
nothing_behind bytes text None left c e = absurd c
nothing_behind bytes text (Some rest) left c e = e

nothing_told : (mid left : Option (List ℕ)) → LeavesNothing mid left → LeavesNothing None left
nothing_told None left e = e
nothing_told (Some rest) left e = rw e refl

pub nothing_left : {S : Type 0} (left : S → Option (List ℕ)) (told unread : Option (List ℕ)) (form : Form) (header : Header) (events : List Event) (source source' : S)
    → source' ≡ source → IfSome told (λ bytes. HasRead form bytes unread header events) → LeavesNothing unread (left source) → LeavesNothing told (left source')
nothing_left left None unread form header events source source' same h e = rw same (nothing_told unread (left source) e)
nothing_left left (Some bytes) unread form header events source source' same h e = rw same (nothing_behind bytes _ unread (left source) h.text e)

-- how the reading ends, and what is written then
pub ended : {S : Type 0} (left : S → Option (List ℕ)) (told : Option (List ℕ)) (conversion : Conversion) (header header' : Header) (events : List Event) (P Q : List ℕ → List Event → Type 0)
    (end : TraceEnd) (form : Form) (source source' : S) → form ≡ form_read conversion → header' ≡ header → source' ≡ source → IfSome told (λ bytes. P bytes events)
    → ((bytes : List ℕ) (events : List Event) → P bytes events → IsReading form (Q bytes) bytes (left source) header' events (Err end))
    → IfSome told (λ bytes. IsConverted conversion bytes (left source') end (converted conversion header events))
ended left None conversion header header' events P Q end form source source' reads_form is same h reads = tt
ended left (Some bytes) conversion header header' events P Q end form source source' reads_form is same h reads =
    let read : ReadsTo (form_read conversion) bytes (left source) header events end =
    subst (λ (d : Header). ReadsTo (form_read conversion) bytes (left source) d events end) is (subst (λ (m : Form). ReadsTo m bytes (left source) header' events end) reads_form (reads bytes events h)) in
    inr (header, events, rw same read, refl)

-- ---- what was written

-- one more event of a trace
spelt_more : (form : Form) (header : Header) (events : List Event) (event : Event) → spelt form header (events ++ event ∷ []) ≡ spelt form header events ++ event_spelt form header.version event
spelt_more forms.Text header events event = trace_text-more header events event
spelt_more forms.Binary header events event = binary_of-more header events event

-- ---- the copy

-- these events were read, and what is made of them was handed to the writer
abbrev pub Copied : Option (List ℕ) → Conversion → Header → (List ℕ → List Event → Type 0) → (List ℕ → Type 0) → Type 0
Copied told conversion header P W = (events : List Event) × IfSome told (λ bytes. P bytes events) × W (converted conversion header events)

one_more : (told : Option (List ℕ)) (events : List Event) (event : Event) (P Q : List ℕ → List Event → Type 0) → IfSome told (λ bytes. P bytes events)
    → ((bytes : List ℕ) (events : List Event) → P bytes events → Q bytes (events ++ event ∷ [])) → IfSome told (λ bytes. Q bytes (events ++ event ∷ []))
one_more None events event P Q h reads = tt
one_more (Some bytes) events event P Q h reads = reads bytes events h

pub copied_more : (told before : Option (List ℕ)) (conversion : Conversion) (header : Header) (P Q : List ℕ → List Event → Type 0) (W V : Option (List ℕ) → List ℕ → Type 0) (event : Event)
    (form : Form) (version : ℕ) → form_written conversion ≡ form → version ≡ (header_written conversion header).version → Copied told conversion header P (W before)
    → ((bytes : List ℕ) (events : List Event) → P bytes events → Q bytes (events ++ event ∷ []))
    → ((before : Option (List ℕ)) (bytes : List ℕ) → W before bytes → V before (bytes ++ event_spelt form version event))
    → Copied told conversion header Q (V before)
copied_more told before conversion header P Q W V event form version is same (events, h, given) reads put = (
  events ++ event ∷ [],
  one_more told events event P Q h reads,
  subst (V before) (ap (λ (m : Form). converted conversion header events ++ event_spelt m version event) (sym is) ∙ ap (λ v. converted conversion header events ++ event_spelt (form_written conversion) v event) same
      ∙ sym (spelt_more (form_written conversion) (header_written conversion header) events event)) (put before (converted conversion header events) given),
)

-- a trace without events is its header
pub text_alone : (header : Header) → header_text header ≡ spelt forms.Text header []
text_alone header = sym (append-nil (header_text header))

pub binary_alone : (header : Header) → header_bytes header ≡ spelt forms.Binary header []
binary_alone header = sym (append-nil (header_bytes header))

read_all : (told : Option (List ℕ)) (events : List Event) (P Q : List ℕ → List Event → Type 0) → ((bytes : List ℕ) (events : List Event) → P bytes events → Q bytes events)
    → IfSome told (λ bytes. P bytes events) → IfSome told (λ bytes. Q bytes events)
read_all None events P Q all h = tt
read_all (Some bytes) events P Q all h = all bytes events h

-- a part of it was given, where the output failed
pub part_given : {K : Type 0} (held : K → Option (List ℕ)) (told unread before : Option (List ℕ)) (conversion : Conversion) (header : Header) (P : List ℕ → List Event → Type 0) (W : List ℕ → Type 0)
    (sink sink' : K) → sink' ≡ sink → ((bytes : List ℕ) (events : List Event) → P bytes events → HasRead (form_read conversion) bytes unread header events)
    → ((text : List ℕ) → W text → AppendsPart before (held sink) text) → Copied told conversion header P W
    → (text : List ℕ) × AppendsPart before (held sink') text × IfSome told (λ bytes. ConvertsFront conversion bytes text)
part_given held told unread before conversion header P W sink sink' same reads part (events, h, given) = (
  converted conversion header events,
  rw same (part (converted conversion header events) given),
  front_converted told unread conversion header events (read_all told events P (λ bytes more. HasRead (form_read conversion) bytes unread header more) reads h),
)

-- what was read, as the reader has it
pub all_read : (told unread : Option (List ℕ)) (form : Form) (header : Header) (events : List Event) (P : List ℕ → List Event → Type 0)
    → ((bytes : List ℕ) (events : List Event) → P bytes events → HasRead form bytes unread header events) → IfSome told (λ bytes. P bytes events)
    → IfSome told (λ bytes. HasRead form bytes unread header events)
all_read told unread form header events P reads h = read_all told events P (λ bytes more. HasRead form bytes unread header more) reads h

-- all of it was given
pub all_given : {K : Type 0} (held : K → Option (List ℕ)) (before : Option (List ℕ)) (text : List ℕ) (sink sink' : K) → sink' ≡ sink
    → Appends before (held sink) text → Appends before (held sink') text
all_given held before text sink sink' same a = rw same a

-- ---- causes

pub failed_cause : {K T E U F : Type 0} (faults : K → ℕ) (first before : ℕ) (sink sink' : K) (e : E) (f : F) → before ≡ first → sink' ≡ sink
    → HasCause {T = T} {E = E} before (faults sink) (Err e) → HasCause {T = U} {E = F} first (faults sink') (Err f)
failed_cause faults first before sink sink' e f is same c = rw same (rw (sym is) (record { later = c.later; steady = tt; failed = c.failed }))

pub whole_cause : {K T E U F : Type 0} (faults : K → ℕ) (first before : ℕ) (sink sink' : K) (t : T) (u : U) → before ≡ first → sink' ≡ sink
    → HasCause {T = T} {E = E} before (faults sink) (Ok t) → HasCause {T = U} {E = F} first (faults sink') (Ok u)
whole_cause faults first before sink sink' t u is same c = rw same (rw (sym is) (record { later = c.later; steady = c.steady; failed = tt }))

pub read_cause : {S : Type 0} (faults : S → ℕ) (first before : ℕ) (source source' : S) (end : TraceEnd) → before ≡ first → source' ≡ source
    → HasReadCause before (faults source) end → HasReadCause first (faults source') end
read_cause faults first before source source' end is same c = rw same (rw (sym is) c)

-- ---- no header

same_end : (one other : TraceEnd) → ◌≡◌ {A = Result TraceEnd Failed} (Ok one) (Ok other) → one ≡ other
same_end one other is = cc

-- the same as the answer of a reader
pub as_error : (one other : TraceEnd) → ◌≡◌ {A = Result TraceEnd Failed} (Ok one) (Ok other) → ◌≡◌ {A = Result ⊤ TraceEnd} (Err one) (Err other)
as_error one other is = ap Err (same_end one other is)

none_converted : (conversion : Conversion) (told left : Option (List ℕ)) (end : TraceEnd) → HasNoTrace (form_read conversion) end told left
    → IfSome told (λ bytes. IsConverted conversion bytes left end [])
none_converted conversion None left end n = tt
none_converted conversion (Some bytes) left end n = inl (n.1, refl)

no_header : (conversion : Conversion) (input left : Option (List ℕ)) (before now : ℕ) (out : Option (List ℕ)) (faults : ℕ) (end : TraceEnd)
    → HasNoTrace (form_read conversion) end input left → HasReadCause before now end
    → HasConverted conversion input left before now out out faults faults (Ok end)
no_header conversion input left before now out faults end n c = record {
  given = ([], Appends-nil out, λ is. refl, none_converted conversion input left end n);
  part = tt;
  whole = λ is. absurd (n.0 (same_end end Whole is));
  cause = c;
  write_cause = record { later = omega arith; steady = refl; failed = tt };
}

pub none_text : {S : Type 0} (left : S → Option (List ℕ)) (faults : S → ℕ) (conversion : Conversion) (input source source' : S) (out : Option (List ℕ)) (count : ℕ) (e : ReadErr) (end : TraceEnd)
    → form_read conversion ≡ forms.Text → end ≡ text_end e → source' ≡ source → text.HasNoHeader e (left input) (faults input) (left source) (faults source)
    → HasConverted conversion (left input) (left source') (faults input) (faults source') out out count count (Ok end)
none_text left faults conversion input source source' out count e end form is same n =
    rw is (rw same (no_header conversion (left input) (left source) (faults input) (faults source) out count (text_end e)
    (rw form (text_none e (left input) (left source) (faults input) (faults source) n)) (text_none_cause e (left input) (left source) (faults input) (faults source) n)))

pub none_binary : {S : Type 0} (left : S → Option (List ℕ)) (faults : S → ℕ) (conversion : Conversion) (input source source' : S) (out : Option (List ℕ)) (count : ℕ) (e : BinErr) (end : TraceEnd)
    → form_read conversion ≡ forms.Binary → end ≡ binary_end e → source' ≡ source
    → binary.HasNoHeader e (left input) (faults input) (left source) (faults source)
    → HasConverted conversion (left input) (left source') (faults input) (faults source') out out count count (Ok end)
none_binary left faults conversion input source source' out count e end form is same n =
    rw is (rw same (no_header conversion (left input) (left source) (faults input) (faults source) out count (binary_end e)
    (rw form (binary_none e (left input) (left source) (faults input) (faults source) n)) (binary_none_cause e (left input) (left source) (faults input) (faults source) n)))

pub ruleset converting = (text_alone, binary_alone)
