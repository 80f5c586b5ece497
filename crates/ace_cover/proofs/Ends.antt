-- One event more, and the end.
use Rattle.std.proofs.Common.{◌≡◌, ◌<◌, ◌≤◌, ◌+◌, ◌-◌, ◌^◌, ℕ, List, [], ◌∷◌, Option, Some, None, Err, IfSome, length, reverse, refl, sym, subst, ◌∙◌, arith}
use Rattle.std.specs.Io.KnownBytes.{Consumes, IsAtEnd}
use Rattle.std.proofs.lemmas.List.{length-reverse, reverse-reverse}
use Rattle.ace_check.specs.declared.checker.Checker.{Checker}
use Rattle.ace_cover.specs.Counts.{AreCounts, counts}
use Rattle.ace_cover.specs.Following.{HasCome, HasCounted, HasHeard}
use Rattle.ace_event.specs.Text.{event_text, line_text}
use Rattle.ace_event.specs.declared.event.Event.{Event}
use Rattle.ace_event.specs.declared.header.Header.{Header}
use Rattle.ace_grammar.proofs.Readings.Taken.{reads_to, at_end}
use Rattle.ace_grammar.specs.Errors.{HasFaultCause, HasNoHeader, StandsNextWithin}
use Rattle.ace_grammar.specs.Reading.{IsReadable, ReadsWithin, Whole, most_counted}
use Rattle.ace_grammar.specs.declared.error.ReadErr.{ReadErr}
use Rattle.ace_grammar.specs.declared.error.ReadErr.TheVariants as error
use Rattle.ace_model.specs.Trace.{Trace}
use Rattle.ace_points.specs.declared.point.Point.{Point}
use Rattle.ace_verdict.proofs.ErrorLemmas.{error_cause, no_header_cause, no_header_verdict, stop_cause}
use Rattle.ace_verdict.proofs.Followed.{accepted_cause}
use Rattle.ace_verdict.proofs.ProgressLemmas.{error_verdict, stands_further, stop_verdict}
use Rattle.ace_verdict.proofs.Stops.{no_stop}
use Rattle.ace_verdict.specs.Errors.{refusal_of}
use Rattle.ace_verdict.specs.Progress.{HasReadCause, StandsAt, StopsAt}
use Rattle.ace_verdict.specs.Verdict.{IsVerdictWithin}
use Rattle.ace_verdict.specs.declared.limits.Limits.{Limits}
use Rattle.ace_verdict.specs.declared.verdict.Verdict.{Verdict}
use Rattle.ace_verdict.specs.declared.verdict.Verdict.TheVariants as verdict

-- the verdict on the bytes, and what is counted of them
abbrev pub IsRight : Limits → List Point → List ℕ → Verdict → Option (List ℕ) → Type 0
IsRight limits points hits v told = IfSome told (λ bytes. IsVerdictWithin limits bytes v × AreCounts limits points bytes hits v)

-- what hearing an event does, whatever was heard before
abbrev pub Hears : Checker → Checker → Event → List Point → List ℕ → List ℕ → Option Verdict → Type 0
Hears c c' event points hits hits' stop =
    (lines : ℕ) (h : Header) (past : Trace) → HasCounted lines c h past points hits → length past < 2 ^ 64 - 2 → HasHeard lines c' h past event points hits' stop

-- what was heard after the events so far
heard_after : (limits : Limits) (c c' : Checker) (event : Event) (count : ℕ) (h : Header) (points : List Point) (hits hits' : List ℕ) (stop found : Option Verdict)
    → limits.events ≤ most_counted → count < limits.events → stop ≡ found → Hears c c' event points hits hits' stop
    → (past : Trace) → HasCounted limits.lines c h past points hits → count ≡ length past → HasHeard limits.lines c' h past event points hits' found
heard_after limits c c' event count h points hits hits' stop found counted room is heard past stands same =
    subst (HasHeard limits.lines c' h past event points hits') is (heard limits.lines h past stands (omega (arith, counted, room, same)))

-- one event more, which is fine
pub round_comes : (limits : Limits) (c c' : Checker) (event : Event) (count count' : ℕ) (h : Header) (points : List Point) (hits hits' : List ℕ)
    (start left left' : Option (List ℕ)) (stop : Option Verdict)
    → limits.events ≤ most_counted → stop ≡ None → count' ≡ count + 1 → count < limits.events → IsReadable h.version event
    → Consumes left left' (line_text (event_text h.version event)) → Hears c c' event points hits hits' stop
    → HasCome limits c count h points hits start left → HasCome limits c' count' h points hits' start left'
round_comes limits c c' event count count' h points hits hits' start left left' stop counted none more room readable text heard (past, stands, same, at) =
    let after : HasHeard limits.lines c' h past event points hits' None = heard_after limits c c' event count h points hits hits' stop None counted room none heard past stands same in (
      event ∷ past,
      after.counted,
      omega (arith, more, same),
      λ told s. stands_further limits.lines told h past event left left' readable text after.fine (at told s),
    )

-- an event that ends the check leaves nothing to count
uncounted_stop : (limits : Limits) (points : List Point) (bytes hits : List ℕ) (h : Header) (past : Trace) (event : Event) (v : Verdict)
    → StopsAt limits.lines h past event v → AreCounts limits points bytes hits v
uncounted_stop limits points bytes hits h past event (verdict.Accepted n) stops = absurd stops
uncounted_stop limits points bytes hits h past event v stops = tt

stop_right : (limits : Limits) (told : Option (List ℕ)) (h : Header) (past : Trace) (event : Event) (points : List Point) (hits : List ℕ)
    (left left' : Option (List ℕ)) (v : Verdict)
    → length past < limits.events → IsReadable h.version event → Consumes left left' (line_text (event_text h.version event))
    → StopsAt limits.lines h past event v → StandsAt limits.lines told h past left → IsRight limits points hits v told
stop_right limits None h past event points hits left left' v room readable taken stops s = tt
stop_right limits (Some bytes) h past event points hits left left' v room readable taken stops s =
    (stop_verdict limits (Some bytes) h past event left left' v room readable taken stops s, uncounted_stop limits points bytes hits h past event v stops)

-- one that ends the check
pub round_stops : (limits : Limits) (told : Option (List ℕ)) (c c' : Checker) (event : Event) (count : ℕ) (h : Header) (points : List Point) (hits hits' : List ℕ)
    (start left left' : Option (List ℕ)) (stop : Option Verdict) (v : Verdict)
    → limits.events ≤ most_counted → stop ≡ Some v → count < limits.events → IsReadable h.version event
    → Consumes left left' (line_text (event_text h.version event)) → Hears c c' event points hits hits' stop
    → HasCome limits c count h points hits start left → StandsAt limits.lines told h [] start → IsRight limits points hits' v told
round_stops limits told c c' event count h points hits hits' start left left' stop v counted some room readable text heard (past, stands, same, at) s =
    let after : HasHeard limits.lines c' h past event points hits' (Some v) =
    heard_after limits c c' event count h points hits hits' stop (Some v) counted room some heard past stands same in
    stop_right limits told h past event points hits' left left' v (subst (λ n. n < limits.events) same room) readable text after.stops (at told s)

-- the bytes are a whole trace
pub whole : (limits : Limits) (told : Option (List ℕ)) (h : Header) (past : Trace) (points : List Point) (hits : List ℕ) (left : Option (List ℕ)) (events : ℕ)
    → length past ≤ limits.events → IsAtEnd left → events ≡ length past → hits ≡ counts h past points → StandsAt limits.lines told h past left
    → IsRight limits points hits (verdict.Accepted events) told
whole limits None h past points hits left events few end same counted s = tt
whole limits (Some bytes) h past points hits left events few end same counted s =
    let reads : ReadsWithin limits.events bytes h (reverse past) Whole =
    reads_to bytes h (reverse past) left Whole (λ rest. rest ≡ []) s.header_is_readable s.events_are_readable s.text (at_end left end)
    (λ rest none. ((rw length-reverse few), none)) in (
      (h, reverse past, reads, no_stop limits.lines h past s.fine, length-reverse past ∙ sym same),
      (h, reverse past, reads, same ∙ sym (length-reverse past), (rw (reverse-reverse past) counted)),
    )

-- a trace that could not be read on leaves nothing to count
uncounted : (limits : Limits) (points : List Point) (bytes hits : List ℕ) (e : ReadErr) → AreCounts limits points bytes hits (refusal_of e)
uncounted limits points bytes hits (error.Malformed line reason) = tt
uncounted limits points bytes hits error.TooManyEvents = tt
uncounted limits points bytes hits error.ReadFault = tt
uncounted limits points bytes hits error.NoMemory = tt

pub failed : (limits : Limits) (most : ℕ) (told : Option (List ℕ)) (h : Header) (past : Trace) (count : ℕ) (points : List Point) (hits : List ℕ)
    (old new left : Option (List ℕ)) (e : ReadErr) (v : Verdict)
    → limits.events ≡ most → count ≡ length past → v ≡ refusal_of e → StandsNextWithin most h.version (Err e) count old new left
    → StandsAt limits.lines told h past old → IsRight limits points hits v told
failed limits most None h past count points hits old new left e v within same is next s = tt
failed limits most (Some bytes) h past count points hits old new left e v within same is next s =
    let stands : StandsNextWithin limits.events h.version (Err e) count old new left =
    subst (λ n. StandsNextWithin n h.version (Err e) count old new left) (sym within) next in
    subst (λ w. IsRight limits points hits w (Some bytes)) (sym is)
    (error_verdict limits (Some bytes) h past h.version count old new left e same refl stands s, uncounted limits points bytes hits e)

pub failed_cause : (e : ReadErr) (v : Verdict) (first before now : ℕ) → v ≡ refusal_of e → before ≡ first → HasFaultCause (Err e) before now → HasReadCause first now v
failed_cause e v first before now is same c =
    subst (HasReadCause first now) (sym is) (error_cause first now e (subst (λ n. HasFaultCause (Err e) n now) same c))

-- there is no header
pub no_header_right : (limits : Limits) (e : ReadErr) (v : Verdict) (points : List Point) (hits : List ℕ) (old new : Option (List ℕ)) (before now : ℕ)
    → HasNoHeader e old before new now → v ≡ refusal_of e → IsRight limits points hits v old
no_header_right limits e v points hits None new before now n is = tt
no_header_right limits e v points hits (Some bytes) new before now n is =
    subst (λ w. IsRight limits points hits w (Some bytes)) (sym is)
    (no_header_verdict limits e (Some bytes) new before now n, uncounted limits points bytes hits e)

pub no_header_fault : (e : ReadErr) (v : Verdict) (old new : Option (List ℕ)) (before now : ℕ) → HasNoHeader e old before new now → v ≡ refusal_of e
    → HasReadCause before now v
no_header_fault e v old new before now n is = subst (HasReadCause before now) (sym is) (no_header_cause e old new before now n)

-- there was no memory
pub no_memory_right : (limits : Limits) (points : List Point) (hits : List ℕ) (old : Option (List ℕ)) → IsRight limits points hits verdict.NoMemory old
no_memory_right limits points hits None = tt
no_memory_right limits points hits (Some bytes) = (tt, tt)

pub no_memory_cause : (before now : ℕ) → now ≡ before → HasReadCause before now verdict.NoMemory
no_memory_cause before now same = stop_cause before now verdict.NoMemory tt same

pub comes_at_start : (limits : Limits) (c : Checker) (count : ℕ) (h : Header) (points : List Point) (hits : List ℕ) (start : Option (List ℕ)) → count ≡ 0
    → HasCounted limits.lines c h [] points hits → HasCome limits c count h points hits start start
comes_at_start limits c count h points hits start none stands = ([], stands, none, λ told s. s)

pub ruleset ends = (comes_at_start, stop_cause, accepted_cause, failed_cause)

pub ruleset starts = (no_header_right, no_header_fault, no_memory_right, no_memory_cause)
