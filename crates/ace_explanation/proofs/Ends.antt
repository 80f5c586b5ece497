-- One event more, and the end.
use Rattle.std.proofs.Common.{◌≡◌, ◌<◌, ◌≤◌, ◌+◌, ◌-◌, ◌^◌, ◌++◌, ℕ, List, [], ◌∷◌, Option, Some, None, Err, IfSome, length, reverse, refl, sym, ap, append-nil, subst, ◌∙◌, arith, inr}
use Rattle.std.specs.Io.KnownBytes.{Consumes, IsAtEnd}
use Rattle.std.proofs.KnownBytes.{Consumes-trans}
use Rattle.std.proofs.lemmas.List.{length-reverse, reverse-append, reverse-reverse}
use Rattle.ace_event.specs.Ports.{IsHeader}
use Rattle.ace_event.specs.Text.{trace_text, event_text, line_text}
use Rattle.ace_event.specs.declared.event.Event.{Event}
use Rattle.ace_event.specs.declared.header.Header.{Header}
use Rattle.ace_explanation.specs.Explanations.{HasAnyLine, IsExplanationWithin, ShowsPlace, verdict_of}
use Rattle.ace_explanation.specs.Following.{BreaksAt, HasCome, HasFollowed, HasHeard}
use Rattle.ace_explanation.specs.declared.explanation.Explanation.{Explanation}
use Rattle.ace_explanation.specs.declared.listener.Listener.{Listener}
use Rattle.ace_explanation.specs.declared.explanation.Explanation.TheVariants.{Refused, Malformed, Accepted, Other}
use Rattle.ace_grammar.proofs.Readings.OneMore.{trace_text-more}
use Rattle.ace_grammar.proofs.Readings.Taken.{reads_to, at_end}
use Rattle.ace_grammar.specs.Errors.{HasFaultCause, HasNoHeader, StandsNextWithin}
use Rattle.ace_grammar.specs.Lines.{BeginsWith}
use Rattle.ace_grammar.specs.Reading.{IfTold, IsReadable, ReadsWithin, Whole, most_counted}
use Rattle.ace_grammar.specs.declared.error.ReadErr.{ReadErr}
use Rattle.ace_grammar.specs.declared.error.ReadErr.TheVariants as error
use Rattle.ace_malformed.specs.Cut.{IsFirstCut, IsLineOf, ShowsCut, ShowsLine}
use Rattle.ace_model.specs.Trace.{Trace}
use Rattle.ace_outstanding.specs.Outstanding.{outstanding_count}
use Rattle.ace_verdict.proofs.ErrorLemmas.{error_cause, no_header_cause, no_header_verdict, stop_cause}
use Rattle.ace_verdict.proofs.Followed.{accepted_cause}
use Rattle.ace_verdict.proofs.ProgressLemmas.{error_verdict, stands_further, stop_verdict}
use Rattle.ace_verdict.proofs.Stops.{no_stop}
use Rattle.ace_verdict.specs.Errors.{refusal_of}
use Rattle.ace_verdict.specs.Progress.{HasReadCause, StandsAt, StopsAt}
use Rattle.ace_verdict.specs.Verdict.{IsVerdictWithin}
use Rattle.ace_verdict.specs.declared.limits.Limits.{Limits}
use Rattle.ace_verdict.specs.declared.verdict.Verdict.TheVariants as verdict

-- the listener has heard one event more, which is fine
pub comes_further : (limits : Limits) (c c' : Listener) (event : Event) (count count' : ℕ) (h : Header) (start left left' : Option (List ℕ)) (past : Trace)
    → count' ≡ count + 1 → count ≡ length past → IsReadable h.version event → Consumes left left' (line_text (event_text h.version event))
    → ((told : Option (List ℕ)) → StandsAt limits.lines told h [] start → StandsAt limits.lines told h past left)
    → HasHeard limits.lines c' h past event None → HasCome limits c' count' h start left'
comes_further limits c c' event count count' h start left left' past more same readable text stands heard = (
  event ∷ past,
  heard.stands,
  omega (arith, more, same),
  λ told s. stands_further limits.lines told h past event left left' readable text heard.fine (stands told s),
)

-- what a listener does with an event, whatever it has heard
abbrev pub Hears : Listener → Listener → Header → Event → Option Explanation → Type 0
Hears c c' h event stop =
    (lines : ℕ) (past : Trace) → HasFollowed lines c h past → length past < 2 ^ 64 - 2 → HasHeard lines c' h past event stop

-- what the listener has heard after the events so far
heard_after : (limits : Limits) (c c' : Listener) (event : Event) (count : ℕ) (h : Header) (stop found : Option Explanation)
    → limits.events ≤ most_counted → count < limits.events → stop ≡ found → Hears c c' h event stop
    → (past : Trace) → HasFollowed limits.lines c h past → count ≡ length past → HasHeard limits.lines c' h past event found
heard_after limits c c' event count h stop found counted room is heard past stands same =
    subst (HasHeard limits.lines c' h past event) is (heard limits.lines past stands (omega (arith, counted, room, same)))

-- the same of what the listener has heard
pub round_comes : (limits : Limits) (c c' : Listener) (event : Event) (count count' : ℕ) (h : Header) (start left left' : Option (List ℕ)) (stop : Option Explanation)
    → limits.events ≤ most_counted → stop ≡ None → count' ≡ count + 1 → count < limits.events → IsReadable h.version event
    → Consumes left left' (line_text (event_text h.version event)) → Hears c c' h event stop
    → HasCome limits c count h start left → HasCome limits c' count' h start left'
round_comes limits c c' event count count' h start left left' stop counted none more room readable text heard (past, stands, same, at) =
    let after : HasHeard limits.lines c' h past event None = heard_after limits c c' event count h stop None counted room none heard past stands same in
    comes_further limits c c' event count count' h start left left' past more same readable text at after

-- bytes begin with what was taken from their front
begins : (bytes text : List ℕ) (left : Option (List ℕ)) → Consumes (Some bytes) left text → BeginsWith bytes text
begins bytes text None taken = absurd taken
begins bytes text (Some rest) taken = (rest, taken)

-- the event that ended the check is the last of those that the bytes begin with
breaks_at : (limits : Limits) (bytes : List ℕ) (h : Header) (past : Trace) (event : Event) (left left' : Option (List ℕ)) (x : Explanation)
    → Consumes left left' (line_text (event_text h.version event)) → StopsAt limits.lines h past event (verdict_of x) → BreaksAt h past event x
    → StandsAt limits.lines (Some bytes) h past left → ShowsPlace bytes x
breaks_at limits bytes h past event left left' (Other v) taken stops other s = other
breaks_at limits bytes h past event left left' (Malformed b) taken stops breaks s = absurd breaks
breaks_at limits bytes h past event left left' (Accepted events outstanding) taken stops breaks s = absurd breaks
breaks_at limits bytes h past event left left' (Refused r) taken stops (same_header, same_event, clause, expected, origin, before, led) s =
    let text : trace_text h (reverse (event ∷ past)) ≡ trace_text h (reverse past) ++ line_text (event_text h.version event) =
    ap (trace_text h) (reverse-append (event ∷ []) past) ∙ trace_text-more h (reverse past) event in
    rw (same_header, same_event) record {
      past = past;
      text = rw text (begins bytes _ left' (Consumes-trans (Some bytes) left left' _ _ s.text taken));
      index = stops.0;
      rule = stops.1;
      clause = clause;
      expected = expected;
      before = before;
      led = led;
      origin = origin;
    }

-- what is said of it is right
pub stop_right : (limits : Limits) (told : Option (List ℕ)) (h : Header) (past : Trace) (event : Event) (left left' : Option (List ℕ)) (x : Explanation)
    → length past < limits.events → IsReadable h.version event → Consumes left left' (line_text (event_text h.version event))
    → StopsAt limits.lines h past event (verdict_of x) → BreaksAt h past event x → StandsAt limits.lines told h past left
    → IfSome told (λ bytes. IsExplanationWithin limits bytes x)
stop_right limits None h past event left left' x room readable taken stops breaks s = tt
stop_right limits (Some bytes) h past event left left' x room readable taken stops breaks s = (
  stop_verdict limits (Some bytes) h past event left left' (verdict_of x) room readable taken stops s,
  breaks_at limits bytes h past event left left' x taken stops breaks s,
)

-- and it has a line
pub stop_line : (lines events : ℕ) (h : Header) (past : Trace) (event : Event) (x : Explanation) → events ≤ most_counted → length past < events
    → IsHeader h → IsReadable h.version event → StopsAt lines h past event (verdict_of x) → BreaksAt h past event x → HasAnyLine x
stop_line lines events h past event (Other v) counted room header readable stops other = tt
stop_line lines events h past event (Malformed b) counted room header readable stops breaks = tt
stop_line lines events h past event (Accepted n outstanding) counted room header readable stops breaks = tt
stop_line lines events h past event (Refused r) counted room header readable stops (same_header, same_event, clause, expected, origin, before, led) = record {
  header = rw same_header header;
  event = rw (same_header, same_event) readable;
  few = omega (arith, counted, room, stops.0);
}

-- the listener has heard an event that ended the check
pub round_stops : (limits : Limits) (told : Option (List ℕ)) (c c' : Listener) (event : Event) (count : ℕ) (h : Header) (start left left' : Option (List ℕ))
    (stop : Option Explanation) (x : Explanation)
    → limits.events ≤ most_counted → stop ≡ Some x → count < limits.events → IsReadable h.version event
    → Consumes left left' (line_text (event_text h.version event)) → Hears c c' h event stop
    → HasCome limits c count h start left → StandsAt limits.lines told h [] start → IfSome told (λ bytes. IsExplanationWithin limits bytes x)
round_stops limits told c c' event count h start left left' stop x counted some room readable text heard (past, stands, same, at) s =
    let after : HasHeard limits.lines c' h past event (Some x) = heard_after limits c c' event count h stop (Some x) counted room some heard past stands same in
    stop_right limits told h past event left left' x (subst (λ n. n < limits.events) same room) readable text after.stops after.breaks (at told s)

pub round_line : (limits : Limits) (c c' : Listener) (event : Event) (count : ℕ) (h : Header) (start left : Option (List ℕ))
    (stop : Option Explanation) (x : Explanation)
    → limits.events ≤ most_counted → stop ≡ Some x → count < limits.events → IsReadable h.version event → Hears c c' h event stop
    → HasCome limits c count h start left → IsHeader h → HasAnyLine x
round_line limits c c' event count h start left stop x counted some room readable heard (past, stands, same, at) header =
    let after : HasHeard limits.lines c' h past event (Some x) = heard_after limits c c' event count h stop (Some x) counted room some heard past stands same in
    stop_line limits.lines limits.events h past event x counted (subst (λ n. n < limits.events) same room) header readable after.stops after.breaks

-- the bytes are a whole trace
pub whole : (limits : Limits) (told : Option (List ℕ)) (h : Header) (past : Trace) (left : Option (List ℕ)) (events : ℕ) → length past ≤ limits.events → IsAtEnd left
    → events ≡ length past → StandsAt limits.lines told h past left
    → IfSome told (λ bytes. IsExplanationWithin limits bytes (Accepted events (outstanding_count h past)))
whole limits None h past left events few end same s = tt
whole limits (Some bytes) h past left events few end same s =
    let reads : ReadsWithin limits.events bytes h (reverse past) Whole =
    reads_to bytes h (reverse past) left Whole (λ rest. rest ≡ []) s.header_is_readable s.events_are_readable s.text (at_end left end)
    (λ rest none. ((rw length-reverse few), none)) in
    let (rest, text, ends) = reads.text in
    let whole : bytes ≡ trace_text h (reverse past) = text ∙ ap (λ r. trace_text h (reverse past) ++ r) ends.1 ∙ append-nil _ in (
      (h, reverse past, reads, no_stop limits.lines h past s.fine, length-reverse past ∙ sym same),
      (h, reverse past, s.header_is_readable, s.events_are_readable, whole, ap (outstanding_count h) (sym (reverse-reverse past))),
    )

-- the line that stands behind the events so far
line_behind : (lines : ℕ) (bytes : List ℕ) (h : Header) (past : Trace) (number : ℕ) (line : List ℕ) (left : Option (List ℕ)) → number ≡ length past + 3
    → IfTold left (IsFirstCut line) → StandsAt lines (Some bytes) h past left → IsLineOf bytes h.version number line
line_behind lines bytes h past number line None is cut s = absurd s.text
line_behind lines bytes h past number line (Some rest) is cut s = record {
  before = trace_text h (reverse past);
  rest = rest;
  bytes_are = s.text;
  stands = inr (inr (h, reverse past, refl, (rw length-reverse is), refl));
  first = cut;
}

shows_line : (limits : Limits) (bytes : List ℕ) (h : Header) (past : Trace) (count : ℕ) (line : List ℕ) (old new left : Option (List ℕ)) (e : ReadErr) → count ≡ length past
    → StandsNextWithin limits.events h.version (Err e) count old new left → ShowsCut old line e → StandsAt limits.lines (Some bytes) h past old
    → ShowsLine (Some bytes) h.version line e
shows_line limits bytes h past count line old new left (error.Malformed number reason) same next cut s =
    line_behind limits.lines bytes h past number line old (next.1 ∙ ap (λ n. n + 3) same) cut s
shows_line limits bytes h past count line old new left error.TooManyEvents same next cut s = tt
shows_line limits bytes h past count line old new left error.ReadFault same next cut s = tt
shows_line limits bytes h past count line old new left error.NoMemory same next cut s = tt

-- what is said where a trace of a version could not be read on, this line being the last
abbrev pub SaysUnread : Explanation → ReadErr → ℕ → List ℕ → Type 0
SaysUnread x e version line = (told : Option (List ℕ)) → ShowsLine told version line e → IfSome told (λ bytes. ShowsPlace bytes x)

-- the trace could not be read on
pub failed : (limits : Limits) (most : ℕ) (told : Option (List ℕ)) (h : Header) (past : Trace) (count : ℕ) (line : List ℕ) (old new left : Option (List ℕ)) (e : ReadErr)
    (x : Explanation)
    → limits.events ≡ most → count ≡ length past → verdict_of x ≡ refusal_of e → StandsNextWithin most h.version (Err e) count old new left → ShowsCut old line e
    → SaysUnread x e h.version line → StandsAt limits.lines told h past old → IfSome told (λ bytes. IsExplanationWithin limits bytes x)
failed limits most None h past count line old new left e x within same is next cut says s = tt
failed limits most (Some bytes) h past count line old new left e x within same is next cut says s =
    let stands : StandsNextWithin limits.events h.version (Err e) count old new left =
    subst (λ n. StandsNextWithin n h.version (Err e) count old new left) (sym within) next in (
      subst (IsVerdictWithin limits bytes) (sym is) (error_verdict limits (Some bytes) h past h.version count old new left e same refl stands s),
      says (Some bytes) (shows_line limits bytes h past count line old new left e same stands cut s),
    )

pub failed_cause : (e : ReadErr) (x : Explanation) (first before now : ℕ) → verdict_of x ≡ refusal_of e → before ≡ first → HasFaultCause (Err e) before now
    → HasReadCause first now (verdict_of x)
failed_cause e x first before now is same c =
    subst (HasReadCause first now) (sym is) (error_cause first now e (subst (λ n. HasFaultCause (Err e) n now) same c))

-- there is no header
pub no_header_right : (limits : Limits) (e : ReadErr) (x : Explanation) (version : ℕ) (line : List ℕ) (old new : Option (List ℕ)) (before now : ℕ) → HasNoHeader e old before new now
    → verdict_of x ≡ refusal_of e → ShowsLine old version line e → SaysUnread x e version line → IfSome old (λ bytes. IsExplanationWithin limits bytes x)
no_header_right limits e x version line None new before now n is shown says = tt
no_header_right limits e x version line (Some bytes) new before now n is shown says =
    (subst (IsVerdictWithin limits bytes) (sym is) (no_header_verdict limits e (Some bytes) new before now n), says (Some bytes) shown)

pub no_header_fault : (e : ReadErr) (x : Explanation) (old new : Option (List ℕ)) (before now : ℕ) → HasNoHeader e old before new now → verdict_of x ≡ refusal_of e
    → HasReadCause before now (verdict_of x)
no_header_fault e x old new before now n is = subst (HasReadCause before now) (sym is) (no_header_cause e old new before now n)

-- there was no memory
pub no_memory_right : (limits : Limits) (old : Option (List ℕ)) → IfSome old (λ bytes. IsExplanationWithin limits bytes (Other verdict.NoMemory))
no_memory_right limits None = tt
no_memory_right limits (Some bytes) = (tt, tt)

pub no_memory_cause : (before now : ℕ) → now ≡ before → HasReadCause before now verdict.NoMemory
no_memory_cause before now same = stop_cause before now verdict.NoMemory tt same

pub comes_at_start : (limits : Limits) (c : Listener) (count : ℕ) (h : Header) (start : Option (List ℕ)) → count ≡ 0 → HasFollowed limits.lines c h []
    → HasCome limits c count h start start
comes_at_start limits c count h start none stands = ([], stands, none, λ told s. s)

pub ruleset ends = (comes_at_start, stop_cause, accepted_cause, failed_cause)

pub ruleset starts = (no_header_right, no_header_fault, no_memory_right, no_memory_cause)
