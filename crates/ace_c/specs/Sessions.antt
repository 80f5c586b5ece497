-- What a session has heard, and how it ends.
use Rattle.std.specs.Prelude.{ℕ, zero, suc, ◌≡◌, ◌≤◌, ◌-◌, ◌^◌, ◌⊎◌, true, List, [], ◌∷◌, Option, Some, None, Result, Ok, Err, length}
use Rattle.std.specs.Option.{MatchOption}
use Rattle.ace_event.specs.declared.event.Event.{Event}
use Rattle.ace_event.specs.declared.header.Header.{Header}
use Rattle.ace_model.specs.declared.breaks.Break.{Break}
use Rattle.ace_model.specs.Trace.{Trace}
use Rattle.ace_model.specs.Accepted.{least_broken}
use Rattle.ace_check.specs.Run.{IsSound, StandsWithin, MayLackMemory, goes_over_within}
use Rattle.ace_check.specs.declared.checker.CheckErr.{CheckErr}
use Rattle.ace_check.specs.declared.checker.CheckErr.TheVariants as check_err
use Rattle.ace_check.specs.declared.checker.Step.{Step}
use Rattle.ace_check.specs.declared.checker.Step.TheVariants.{Fine, Broken}
use Rattle.ace_c.specs.declared.answer.Ending.{Ending}
use Rattle.ace_c.specs.declared.answer.Ending.TheVariants.{Refused, OutOfRange, TooManyLines, NoMemory, TooManyEvents}
use Rattle.ace_c.specs.declared.record.AceEvent.{AceEvent}
use Rattle.ace_c.specs.declared.session.Session.{Session}
use Rattle.ace_c.specs.Names.{lacks_name, lines_used, named, named_next, uses_new_line}
use Rattle.ace_c.specs.Naming.{NamesStand}
use Rattle.ace_c.specs.Range.{InRange}
use Rattle.ace_c.specs.Records.{event_of}

-- The session goes on, and has heard this trace, which is accepted under the names of its lines.
-- Its transactions may name so many lines.
pub record Hears (s : Session) (most : ℕ) (h : Header) (past : Trace) : Type 0 where
  pub stands : StandsWithin most s.checker h (named past) None
  pub names : NamesStand s.names (lines_used past)
  pub version : s.version ≡ h.version
  pub on : s.ended ≡ None

-- The session has heard this trace, which is accepted so, and the next event ended it so.
pub record HasEnded (s : Session) (most : ℕ) (h : Header) (past : Trace) (ending : Ending)
    : Type 0 where
  pub break : Option Break
  pub stands : StandsWithin most s.checker h (named past) break
  pub ended : s.ended ≡ Some ending

-- there is an event, its fields are in range, and this holds of it
abbrev pub IsEventThat : Header → Option Event → (Event → Type 0) → Type 0
IsEventThat h o P = MatchOption o ⊥ (λ e. InRange h.version e × P e)

-- the event breaks no rule, and its transaction names one line more than so many
abbrev pub IsOver : ℕ → Header → Trace → Event → Type 0
IsOver most h past e =
    (least_broken h (named past) (named_next past e) ≡ None)
    × (goes_over_within most (named past) (named_next past e) ≡ true)

-- why the event ends a session that has heard the trace
abbrev pub EndsAt : ℕ → Header → Trace → Event → Ending → Type 0
EndsAt most h past e (Refused rule) =
    InRange h.version e × (least_broken h (named past) (named_next past e) ≡ Some rule)
EndsAt most h past e OutOfRange = ¬ InRange h.version e
EndsAt most h past e TooManyLines =
    InRange h.version e × (IsOver most h past e ⊎ (lacks_name past e ≡ true))
EndsAt most h past e NoMemory =
    InRange h.version e
    × (MayLackMemory h (named past) (named_next past e) ⊎ (uses_new_line past e ≡ true))
EndsAt most h past e TooManyEvents = InRange h.version e × (2 ^ 64 - 2 ≤ length past)

-- why a record ends a session that has heard the trace: it is no event, or is one that ends it
abbrev pub IsEnding : ℕ → Header → Trace → Option Event → Ending → Type 0
IsEnding most h past o ending =
    MatchOption o (ending ≡ OutOfRange) (λ e. EndsAt most h past e ending)

-- The session has been fed these records after the trace. The first n are events in range that it
-- has heard. If they are all, the whole trace is sound; else the next record has ended the session.
unfoldable pub HasFed : Session → ℕ → Header → Trace → List AceEvent → ℕ → Type 0
HasFed s most h past [] n = (n ≡ 0) × Hears s most h past × IsSound h (named past)
HasFed s most h past (r ∷ rs) zero =
    (ending : Ending) × HasEnded s most h past ending × IsEnding most h past (event_of r) ending
HasFed s most h past (r ∷ rs) (suc n) =
    IsEventThat h (event_of r) (λ e. HasFed s most h (e ∷ past) rs n)

-- how an answer of the checker ends a session, if it does
abbrev pub ending_as : Result Step CheckErr → Option Ending
ending_as (Ok Fine) = None
ending_as (Ok (Broken index rule)) = Some (Refused rule)
ending_as (Err check_err.TooManyLines) = Some TooManyLines
ending_as (Err check_err.NoMemory) = Some NoMemory
