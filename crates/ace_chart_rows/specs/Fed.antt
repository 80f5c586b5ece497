-- What a checker that stood for a trace has heard.
use Rattle.std.specs.Prelude.{◌≡◌, ◌-◌, ◌^◌, ℕ, ◌∷◌, Option, Some, None}
use Rattle.ace_check.specs.Run.{StandsWithin}
use Rattle.ace_check.specs.declared.checker.Checker.{Checker}
use Rattle.ace_check.specs.declared.checker.Step.{Step}
use Rattle.ace_check.specs.declared.checker.Step.TheVariants.{Fine, Broken}
use Rattle.ace_event.specs.declared.event.Event.{Event}
use Rattle.ace_event.specs.declared.header.Header.{Header}
use Rattle.ace_model.specs.Accepted.{least_broken}
use Rattle.ace_model.specs.Trace.{Trace}
use Rattle.ace_model.specs.declared.breaks.Break.{Break}

-- an event more, which breaks no rule; or one that breaks this rule and no lesser one
abbrev pub HasFed : Header → Trace → Event → Checker → Option ℕ → Type 0
HasFed h past e c None = StandsWithin (2 ^ 64 - 1) c h (e ∷ past) None
HasFed h past e c (Some rule) =
    (b : Break) × StandsWithin (2 ^ 64 - 1) c h past (Some b) × (least_broken h past e ≡ Some rule)

-- the least rule that is broken, if one is
abbrev pub rule_of : Step → Option ℕ
rule_of Fine = None
rule_of (Broken index rule) = Some rule
