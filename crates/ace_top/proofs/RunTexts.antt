-- The text of a trace that a run gave, event by event.
use Rattle.std.proofs.Common.{◌≡◌, ◌<◌, ◌+◌, ◌++◌, ℕ, List, [], ◌∷◌, Option, Result, Ok, Err, OnErr, take, drop, length, reverse, get_or, sym, ap, subst, ◌∙◌, append_assoc, take-append-drop}
use Rattle.std.specs.List.{AllByRecursion}
use Rattle.std.proofs.lemmas.Grind.{flat_map-append}
use Rattle.std.proofs.lemmas.List.{take_more, reverse-append, reverse-reverse}
use Rattle.ace_event.specs.declared.event.Event.{Event}
use Rattle.ace_event.specs.declared.header.Header.{Header}
use Rattle.ace_event.specs.Text.{header_text, events_text, trace_text, event_text, line_text}
use Rattle.ace_runs.specs.Ranges.{IsWritable}
use Rattle.ace_grammar.proofs.Readings.OneMore.{events_text-more}
use Rattle.ace_model.specs.Trace.{Trace}
use Rattle.ace_writer.specs.declared.writer.Writer.{Writer}
use Rattle.ace_writer.specs.Given.{GivesFront, sink_of}
use Rattle.ace_convert.specs.Output.{AppendsPart}

-- the text with the line of one more event
next_text : (version : ℕ) (text : List ℕ) (events : List Event) (count : ℕ) (e : Event) → count < length events → get_or events count e ≡ e
    → (text ++ events_text version (take count events)) ++ line_text (event_text version e) ≡ text ++ events_text version (take (count + 1) events)
next_text version text events count e lt is =
    let line = line_text (event_text version e) in
    let next : take (count + 1) events ≡ take count events ++ e ∷ [] = take_more events count e lt ∙ ap (λ x. take count events ++ x ∷ []) is in
    append_assoc text (events_text version (take count events)) line
    ∙ ap (λ (l : List ℕ). text ++ l) (sym (ap (events_text version) next ∙ events_text-more version (take count events) e))

-- it was given as far as it goes out
pub gives_next : {K : Type 0} (held : K → Option (List ℕ)) (version version' : ℕ) (before : Option (List ℕ)) (text : List ℕ) (events : List Event) (count : ℕ) (e : Event) (writer : Writer K)
    → version' ≡ version → count < length events → get_or events count e ≡ e
    → GivesFront held before ((text ++ events_text version (take count events)) ++ line_text (event_text version' e)) writer
    → GivesFront held before (text ++ events_text version (take (count + 1) events)) writer
gives_next held version version' before text events count e writer same lt is f =
    subst (λ t. GivesFront held before t writer) (next_text version text events count e lt is)
    (subst (λ v. GivesFront held before ((text ++ events_text version (take count events)) ++ line_text (event_text v e)) writer) same f)

-- what was given is a front of the text of all events
pub part_given : {K : Type 0} (held : K → Option (List ℕ)) (version : ℕ) (before : Option (List ℕ)) (text : List ℕ) (events : List Event) (count : ℕ) (writer : Writer K)
    → GivesFront held before (text ++ events_text version (take count events)) writer → AppendsPart before (held (sink_of writer).now) (text ++ events_text version events)
part_given held version before text events count writer g =
    let front = events_text version (take count events) in
    let rest = events_text version (drop count events) in
    let whole : events_text version events ≡ front ++ rest =
    ap (events_text version) (sym (take-append-drop count events)) ∙ flat_map-append (λ event. line_text (event_text version event)) (take count events) (drop count events) in (
      g.front,
      g.rest ++ rest,
      ap (λ (t : List ℕ). text ++ t) whole ∙ sym (append_assoc text front rest) ∙ ap (λ (t : List ℕ). t ++ rest) g.cut ∙ append_assoc g.front g.rest rest,
      g.bytes,
    )

-- a front of the text was given
pub front_given : {K : Type 0} (held : K → Option (List ℕ)) (before : Option (List ℕ)) (text : List ℕ) (writer : Writer K) → GivesFront held before text writer → AppendsPart before (held (sink_of writer).now) text
front_given held before text writer g = (g.front, g.rest, g.cut, g.bytes)

-- where a call failed
pub on_failure : {T E P : Type 0} (r : Result T E) → P → OnErr r P
on_failure (Ok x) p = tt
on_failure (Err e) p = p

-- the text of the header, and of the events in its version, is that of the trace
pub trace_part : {T E : Type 0} (r : Result T E) (h : Header) (events : List Event) (version : ℕ) (before now now' : Option (List ℕ)) → version ≡ h.version → now' ≡ now
    → OnErr r (AppendsPart before now (header_text h ++ events_text version events)) → OnErr r (AppendsPart before now' (trace_text h events))
trace_part (Ok x) h events version before now now' same is part = tt
trace_part (Err e) h events version before now now' same is part =
    subst (λ (o : Option (List ℕ)). AppendsPart before o (trace_text h events)) (sym is) (subst (λ v. AppendsPart before now (header_text h ++ events_text v events)) same part)

-- the events of a run, in order
in_order : (past : Trace) (events : List Event) → reverse events ≡ past → events ≡ reverse past
in_order past events is = sym (reverse-reverse events) ∙ ap reverse is

all-both : {A : Type 0} (P : A → Type 0) (xs ys : List A) → AllByRecursion P xs → AllByRecursion P ys → AllByRecursion P (xs ++ ys)
all-both P [] ys first second = second
all-both P (x ∷ xs) ys first second = (first.0, all-both P xs ys first.1 second)

all-reversed : {A : Type 0} (P : A → Type 0) (xs : List A) → AllByRecursion P xs → AllByRecursion P (reverse xs)
all-reversed P [] all = all
all-reversed P (x ∷ xs) all =
    subst (AllByRecursion P) (sym (reverse-append (x ∷ []) xs)) (all-both P (reverse xs) (x ∷ []) (all-reversed P xs all.1) (all.0, tt))

-- so each of them can be written, as the law of runs says
pub run_range : (version version' : ℕ) (past : Trace) (events : List Event) → version' ≡ version → reverse events ≡ past → AllByRecursion (IsWritable version) past → AllByRecursion (IsWritable version') events
run_range version version' past events same is all =
    subst (λ v. AllByRecursion (IsWritable v) events) (sym same)
    (subst (AllByRecursion (IsWritable version)) (sym (in_order past events is)) (all-reversed (IsWritable version) past all))

pub run_part : {T E : Type 0} (r : Result T E) (h header : Header) (events : List Event) (past : Trace) (before now : Option (List ℕ)) → header ≡ h → reverse events ≡ past
    → OnErr r (AppendsPart before now (trace_text header events)) → OnErr r (AppendsPart before now (trace_text h (reverse past)))
run_part r h header events past before now same is part =
    subst (λ (es : List Event). OnErr r (AppendsPart before now (trace_text h es))) (in_order past events is)
    (subst (λ (k : Header). OnErr r (AppendsPart before now (trace_text k events))) same part)

pub ruleset events = (front_given)
