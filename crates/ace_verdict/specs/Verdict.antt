-- Which verdict the bytes of a trace get.
use Rattle.std.specs.Prelude.{◌≡◌, ◌+◌, ◌≤◌, ◌⊎◌, ⊤, ℕ, Bool, if◌then◌else◌, List, [], ◌∷◌, Option, None, Some, length, reverse}
use Rattle.std.specs.List.{AllByRecursion}
use Rattle.ace_event.specs.declared.header.Header.{Header}
use Rattle.ace_event.specs.declared.event.Event.{Event}
use Rattle.ace_event.specs.Text.{trace_text}
use Rattle.ace_grammar.specs.Lines.{BeginsWith}
use Rattle.ace_grammar.specs.Reading.{Ending, Whole, Full, Bad, ReadsWithin, IsReadable, IsReadableHeader, HasBadHeader, most_events}
use Rattle.ace_model.specs.Trace.{Trace, newer}
use Rattle.ace_model.specs.Accepted.{least_broken}
use Rattle.ace_check.specs.Promises.{IsSound, goes_over_within, most_lines}
use Rattle.ace_verdict.specs.Limits.{trace_limits}
use Rattle.ace_verdict.specs.declared.limits.Limits.{Limits}
use Rattle.ace_verdict.specs.declared.verdict.Verdict.{Verdict}
use Rattle.ace_verdict.specs.declared.verdict.Verdict.TheVariants.{Accepted, Refused, Malformed, ReadFault, LimitEvents, LimitLines, NoMemory}

-- what ends a check before the end of the trace: the event with this number breaks this rule, the
-- least; or an event that breaks none names one line more than a trace may have
pub data Stop : Type 0 where
  Breaks : ℕ → ℕ → Stop
  GoesOver : Stop

abbrev pub stop_of : ℕ → Option ℕ → Bool → Option Stop
stop_of n (Some k) over = Some (Breaks n k)
stop_of n None over = if over then Some GoesOver else None

-- After a trace, which may name so many lines, come the events of a list, the oldest first: what
-- ends the check at the first of them that does.
abbrev pub first_stop_after : ℕ → Header → Trace → List Event → Option Stop
first_stop_after lines h past [] = None
first_stop_after lines h past (e ∷ events) =
    newer (stop_of (length past + 1) (least_broken h past e) (goes_over_within lines past e))
    (first_stop_after lines h (e ∷ past) events)

-- of a whole trace, the oldest event first
abbrev pub first_stop_within : ℕ → Header → List Event → Option Stop
first_stop_within lines h events = first_stop_after lines h [] events

-- by the most lines of a trace
abbrev pub first_stop : Header → List Event → Option Stop
first_stop h events = first_stop_within most_lines h events

-- Within the limits the bytes are a trace of so many events that ends so, and nothing ends its
-- check before.
abbrev pub ReadsUnbroken : Limits → List ℕ → ℕ → Ending → Type 0
ReadsUnbroken limits bytes count ending =
    (header : Header) × (events : List Event) × ReadsWithin limits.events bytes header events ending
    × (first_stop_within limits.lines header events ≡ None) × (length events ≡ count)

-- The bytes begin with a trace, of at most as many events as it may have, whose check ends so.
abbrev pub BeginsStopped : Limits → List ℕ → Stop → Type 0
BeginsStopped limits bytes stop =
    (header : Header) × (events : List Event) × IsReadableHeader header
    × AllByRecursion (IsReadable header.version) events × (length events ≤ limits.events)
    × BeginsWith bytes (trace_text header events)
    × (first_stop_within limits.lines header events ≡ Some stop)

-- the verdict on these bytes, where a trace may have so much; a fault of the input and want of
-- memory may take its place
abbrev pub IsVerdictWithin : Limits → List ℕ → Verdict → Type 0
IsVerdictWithin limits bytes (Accepted events) = ReadsUnbroken limits bytes events Whole
IsVerdictWithin limits bytes (Refused index rule) = BeginsStopped limits bytes (Breaks index rule)
IsVerdictWithin limits bytes (Malformed line reason) =
    HasBadHeader bytes line reason
    ⊎ ((count : ℕ) × ReadsUnbroken limits bytes count (Bad line reason))
IsVerdictWithin limits bytes LimitEvents = (count : ℕ) × ReadsUnbroken limits bytes count Full
IsVerdictWithin limits bytes LimitLines = BeginsStopped limits bytes GoesOver
IsVerdictWithin limits bytes ReadFault = ⊤
IsVerdictWithin limits bytes NoMemory = ⊤

-- the verdict where no other limits are asked for
abbrev pub IsVerdict : List ℕ → Verdict → Type 0
IsVerdict bytes verdict = IsVerdictWithin trace_limits bytes verdict

-- a verdict that says what is in the bytes, and not that the input failed or that there was no
-- memory
abbrev pub IsDueVerdict : Verdict → Type 0
IsDueVerdict ReadFault = ⊥
IsDueVerdict NoMemory = ⊥
IsDueVerdict verdict = ⊤

-- The bytes are a whole trace of at most so many events, which has all that acceptance promises.
abbrev pub ReadsSoundWithin : ℕ → List ℕ → Type 0
ReadsSoundWithin most bytes =
    (header : Header) × (events : List Event) × ReadsWithin most bytes header events Whole
    × IsSound header (reverse events)

-- the same with the most events of a trace
abbrev pub ReadsSound : List ℕ → Type 0
ReadsSound bytes = ReadsSoundWithin most_events bytes
