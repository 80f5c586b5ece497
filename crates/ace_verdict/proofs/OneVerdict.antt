-- The verdict that is due to bytes is that which their one reading has.
use Rattle.std.proofs.Common.{◌≡◌, ◌≤◌, ℕ, List, [], ◌∷◌, ◌++◌, Option, None, Some, length, refl, sym, ap, ◌∙◌, inl, inr, Bool, true, false, ◌+◌, arith}
use Rattle.ace_event.specs.declared.header.Header.{Header}
use Rattle.ace_event.specs.declared.event.Event.{Event}
use Rattle.ace_grammar.specs.declared.reason.Reason.{Reason}
use Rattle.ace_grammar.specs.Reading.{Ending, EndsWithin, Whole, Full, Bad, ReadsWithin, HasBadHeader}
use Rattle.ace_grammar.proofs.Readings.EveryReading.{some_reading_within}
use Rattle.ace_grammar.proofs.Readings.Fronts.{front_is_read, front_is_good}
use Rattle.ace_grammar.proofs.Readings.OneReading.{one_reading, no_bad_header, one_bad_header}
use Rattle.ace_model.specs.Accepted.{least_broken}
use Rattle.ace_model.specs.Trace.{newer}
use Rattle.ace_check.specs.Promises.{goes_over_within}
use Rattle.ace_verdict.specs.declared.limits.Limits.{Limits}
use Rattle.ace_verdict.specs.declared.verdict.Verdict.{Verdict}
use Rattle.ace_verdict.specs.declared.verdict.Verdict.TheVariants.{Accepted, Refused, Malformed, ReadFault, LimitEvents, LimitLines, NoMemory}
use Rattle.ace_verdict.specs.Verdict.{IsVerdictWithin, IsDueVerdict, BeginsStopped, Stop, Breaks, GoesOver, stop_of, first_stop_after, first_stop_within}

-- what ends the check of a trace ends that of each longer one
found_first : (n : ℕ) (k : Option ℕ) (over : Bool) (later more : Option Stop) (stop : Stop)
    → ((s : Stop) → later ≡ Some s → more ≡ Some s) → newer (stop_of n k over) later ≡ Some stop → newer (stop_of n k over) more ≡ Some stop
found_first n (Some k) over later more stop go is = is
found_first n None true later more stop go is = is
found_first n None false later more stop go is = go stop is

stops_after : (lines : ℕ) (h : Header) (past events more : List Event) (stop : Stop) → first_stop_after lines h past events ≡ Some stop → first_stop_after lines h past (events ++ more) ≡ Some stop
stops_after lines h past [] more stop is = absurd cc
stops_after lines h past (e ∷ events) more stop is =
    found_first (length past + 1) (least_broken h past e) (goes_over_within lines past e) (first_stop_after lines h (e ∷ past) events) (first_stop_after lines h (e ∷ past) (events ++ more)) stop
    (λ s. stops_after lines h (e ∷ past) events more s) is

-- the verdict on a trace that ends so, by what ends its check before
abbrev pub verdict_of : Option Stop → Ending → ℕ → Verdict
verdict_of (Some (Breaks index rule)) end count = Refused index rule
verdict_of (Some GoesOver) end count = LimitLines
verdict_of None Whole count = Accepted count
verdict_of None Full count = LimitEvents
verdict_of None (Bad line reason) count = Malformed line reason

-- where nothing ends the check before
unbroken : (limits : Limits) (bytes : List ℕ) (h header : Header) (events es : List Event) (end ending : Ending) (count : ℕ) → ReadsWithin limits.events bytes h events end → ReadsWithin limits.events bytes header es ending
    → first_stop_within limits.lines header es ≡ None → length es ≡ count → verdict_of None ending count ≡ verdict_of (first_stop_within limits.lines h events) end (length events)
unbroken limits bytes h header events es end ending count r reads none is =
    let one = one_reading bytes h header events es end ending r reads in
    rw one.0 (rw one.1 (rw one.2 (rw none (rw is refl))))

-- where something does
broken : (limits : Limits) (bytes : List ℕ) (h : Header) (events : List Event) (end : Ending) (stop : Stop) → ReadsWithin limits.events bytes h events end → BeginsStopped limits bytes stop
    → first_stop_within limits.lines h events ≡ Some stop
broken limits bytes h events end stop r (header, es, readable, all, few, front, is) =
    let f = front_is_read bytes header h es events end readable all few front r in
    rw f.0 (rw f.1.1 (stops_after limits.lines header [] es f.1.0 stop is))

due_verdict : (limits : Limits) (bytes : List ℕ) (h : Header) (events : List Event) (end : Ending) (verdict : Verdict) → ReadsWithin limits.events bytes h events end → IsDueVerdict verdict → IsVerdictWithin limits bytes verdict
    → verdict ≡ verdict_of (first_stop_within limits.lines h events) end (length events)
due_verdict limits bytes h events end (Accepted count) r d (header, es, reads, none, is) = unbroken limits bytes h header events es end Whole count r reads none is
due_verdict limits bytes h events end (Refused index rule) r d b = ap (λ s. verdict_of s end (length events)) (sym (broken limits bytes h events end (Breaks index rule) r b))
due_verdict limits bytes h events end (Malformed line reason) r d (inl bad) = absurd (no_bad_header bytes h events end line reason r bad)
due_verdict limits bytes h events end (Malformed line reason) r d (inr (count, (header, es, reads, none, is))) = unbroken limits bytes h header events es end (Bad line reason) count r reads none is
due_verdict limits bytes h events end LimitEvents r d (count, (header, es, reads, none, is)) = unbroken limits bytes h header events es end Full count r reads none is
due_verdict limits bytes h events end LimitLines r d b = ap (λ s. verdict_of s end (length events)) (sym (broken limits bytes h events end GoesOver r b))
due_verdict limits bytes h events end ReadFault r d v = absurd d
due_verdict limits bytes h events end NoMemory r d v = absurd d

no_front : (limits : Limits) (bytes : List ℕ) (number : ℕ) (reason : Reason) (stop : Stop) → HasBadHeader bytes number reason → BeginsStopped limits bytes stop → ⊥
no_front limits bytes number reason stop bad (header, es, readable, all, few, front, is) = front_is_good bytes header es number reason readable all few front bad

due_without_header : (limits : Limits) (bytes : List ℕ) (number : ℕ) (reason : Reason) (verdict : Verdict) → HasBadHeader bytes number reason → IsDueVerdict verdict → IsVerdictWithin limits bytes verdict
    → verdict ≡ Malformed number reason
due_without_header limits bytes number reason (Accepted count) bad d (header, es, reads, none, is) = absurd (no_bad_header bytes header es Whole number reason reads bad)
due_without_header limits bytes number reason (Refused index rule) bad d b = absurd (no_front limits bytes number reason (Breaks index rule) bad b)
due_without_header limits bytes number reason (Malformed line other) bad d (inl wrong) =
    let one = one_bad_header bytes line number other reason wrong bad in
    rw one.0 (rw one.1 refl)
due_without_header limits bytes number reason (Malformed line other) bad d (inr (count, (header, es, reads, none, is))) = absurd (no_bad_header bytes header es (Bad line other) number reason reads bad)
due_without_header limits bytes number reason LimitEvents bad d (count, (header, es, reads, none, is)) = absurd (no_bad_header bytes header es Full number reason reads bad)
due_without_header limits bytes number reason LimitLines bad d b = absurd (no_front limits bytes number reason GoesOver bad b)
due_without_header limits bytes number reason ReadFault bad d v = absurd d
due_without_header limits bytes number reason NoMemory bad d v = absurd d

-- the bytes have one verdict
pub one_verdict : (limits : Limits) (bytes : List ℕ) (verdict other : Verdict) → IsDueVerdict verdict → IsDueVerdict other → IsVerdictWithin limits bytes verdict → IsVerdictWithin limits bytes other → verdict ≡ other
one_verdict limits bytes verdict other d o v w =
    elim (some_reading_within limits.events bytes) [
      | inl (number, reason, bad) ↦ due_without_header limits bytes number reason verdict bad d v ∙ sym (due_without_header limits bytes number reason other bad o w)
      | inr (header, events, end, r) ↦ due_verdict limits bytes header events end verdict r d v ∙ sym (due_verdict limits bytes header events end other r o w)
    ]

few_events : (most version : ℕ) (end : Ending) (events : List Event) (rest : List ℕ) → EndsWithin most version end events rest → length events ≤ most
few_events most version Whole events rest e = e.0
few_events most version Full events rest e = omega (arith, e.0)
few_events most version (Bad line reason) events rest e = omega (arith, e.0)

begins_stopped : (limits : Limits) (bytes : List ℕ) (header : Header) (events : List Event) (end : Ending) (stop : Stop) → ReadsWithin limits.events bytes header events end → first_stop_within limits.lines header events ≡ Some stop
    → BeginsStopped limits bytes stop
begins_stopped limits bytes header events end stop r is =
    (header, events, r.header_is_readable, r.events_are_readable, few_events limits.events header.version end events r.text.0 r.text.2, (r.text.0, r.text.1), is)

read_verdict : (limits : Limits) (bytes : List ℕ) (header : Header) (events : List Event) (end : Ending) (stop : Option Stop) → ReadsWithin limits.events bytes header events end → first_stop_within limits.lines header events ≡ stop
    → IsDueVerdict (verdict_of stop end (length events)) × IsVerdictWithin limits bytes (verdict_of stop end (length events))
read_verdict limits bytes header events end (Some (Breaks index rule)) r is = (tt, begins_stopped limits bytes header events end (Breaks index rule) r is)
read_verdict limits bytes header events end (Some GoesOver) r is = (tt, begins_stopped limits bytes header events end GoesOver r is)
read_verdict limits bytes header events Whole None r is = (tt, (header, events, r, is, refl))
read_verdict limits bytes header events Full None r is = (tt, (length events, (header, events, r, is, refl)))
read_verdict limits bytes header events (Bad line reason) None r is = (tt, inr (length events, (header, events, r, is, refl)))

-- the bytes have a verdict
pub some_verdict : (limits : Limits) (bytes : List ℕ) → (verdict : Verdict) × IsDueVerdict verdict × IsVerdictWithin limits bytes verdict
some_verdict limits bytes =
    elim (some_reading_within limits.events bytes) [
      | inl (number, reason, bad) ↦ (Malformed number reason, tt, inl bad)
      | inr (header, events, end, r) ↦
          let v = read_verdict limits bytes header events end (first_stop_within limits.lines header events) r refl in
          (verdict_of (first_stop_within limits.lines header events) end (length events), v.0, v.1)
    ]
