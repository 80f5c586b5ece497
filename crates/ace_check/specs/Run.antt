-- What a checker stands for, and what it answers to an event.
use Rattle.std.specs.Prelude.{ℕ, ◌+◌, ◌≡◌, ◌<◌, ◌-◌, ◌^◌, ◌∷◌, ◌⊎◌, false, Option, Some, None, length}
use Rattle.std.specs.List.{AllByRecursion}
use Rattle.ace_event.specs.Range.{FitsFields}
use Rattle.ace_event.specs.declared.event.Event.{Event}
use Rattle.ace_event.specs.declared.header.Header.{Header}
use Rattle.ace_model.specs.declared.breaks.Break.{Break}
use Rattle.ace_model.specs.Trace.{Trace}
use Rattle.ace_model.specs.Accepted.{least_broken}
use Rattle.ace_portck.specs.Targets.{target_of}
use Rattle.ace_portck.specs.Unfinished.{RisesAt}
use Rattle.ace_lineck.specs.Stands.{BeginsLine}
use Rattle.ace_sysck.specs.Registrations.{IsNewLock}
use Rattle.ace_check.specs.Shares.{SharesTell}
use Rattle.ace_check.specs.declared.checker.Checker.{Checker}
use Rattle.ace_check.specs.declared.checker.Step.{Step}
use Rattle.ace_check.specs.declared.checker.Step.TheVariants.{Fine, Broken}
pub use Rattle.ace_check.specs.Promises.{IsSound, goes_over, goes_over_within, most_lines}

-- The checker of at most so many lines stands for a trace under its header: for each share it keeps
-- what there is to keep of the trace, which is accepted. The last is the break that was answered
-- after it, if any was.
pub record StandsWithin (most : ℕ) (c : Checker) (h : Header) (past : Trace) (b : Option Break)
    : Type 0 where
  pub limit : c.shares.most ≡ most
  pub tell : SharesTell c.shares h past
  pub count : c.count ≡ length past
  pub few : length past < 2 ^ 64 - 1
  pub broken : c.broken ≡ b
  pub fits : AllByRecursion FitsFields past

-- the same, of a checker of the lines that a trace may name where no other limit is asked for
abbrev pub Stands : Checker → Header → Trace → Option Break → Type 0
Stands c h past b = StandsWithin most_lines c h past b

-- where there may be no memory for an event: at an AC with which more snoops of its port are under
-- way than ever before, at the first AR or AW of a line and a MEM, and at the first exclusive grant
-- of a line
abbrev pub MayLackMemory : Header → Trace → Event → Type 0
MayLackMemory h past e = RisesAt past e ⊎ BeginsLine past e (target_of h past e) ⊎ IsNewLock past e

-- the answer of a checker of at most so many lines is the one to this event: Fine where the event
-- breaks no rule and names no line too many; Broken with its number, from 1, and the least rule
-- that it breaks
abbrev pub IsAnswerWithin : ℕ → Header → Trace → Event → Step → Type 0
IsAnswerWithin most h past e Fine =
    (least_broken h past e ≡ None) × (goes_over_within most past e ≡ false)
IsAnswerWithin most h past e (Broken index rule) =
    (index ≡ length past + 1) × (least_broken h past e ≡ Some rule)

-- the same, of a checker of the lines that a trace may name where no other limit is asked for
abbrev pub IsAnswer : Header → Trace → Event → Step → Type 0
IsAnswer h past e answer = IsAnswerWithin most_lines h past e answer

-- the trace after the answer
abbrev pub past_after : Trace → Event → Step → Trace
past_after past e Fine = e ∷ past
past_after past e (Broken index rule) = past

-- the break after the answer
abbrev pub break_after : Step → Option Break
break_after Fine = None
break_after (Broken index rule) = Some (record { index = index; rule = rule })
