-- Step 14 alone issues parts of DVM messages.
use Rattle.std.proofs.Common.{◌≡◌, ◌⊎◌, ℕ, true, List, inl, inr}
use Rattle.std.specs.List.{list_all}
use Rattle.ace_event.specs.declared.event.Event.{Event}
use Rattle.ace_model.specs.Plans.{Plan}
use Rattle.ace_model.specs.Trace.{Trace}
use Rattle.ace_runs.specs.MasterSteps.{goes_on}
use Rattle.ace_runs.specs.Operations.{next_operation}
use Rattle.ace_runs.specs.Steps.{is_step}
use Rattle.ace_runs.proofs.NeverStuck.Steps.Lists.{all-implied}
use Rattle.ace_runs.proofs.NeverStuck.Steps.SilentSteps.{issues_no_read, reads-by-one}
use Rattle.ace_runs.proofs.NeverStuck.Messages.WholeIssues.{issues_none, silent-none}

-- A step issues no part, or is step 14.
pub issues-by-one : (plan : Plan) (past : Trace) (p : ℕ) (burst : List Event) → is_step plan past p burst ≡ true
    → (list_all issues_none burst ≡ true) ⊎ (goes_on plan.ways (next_operation plan past p) plan.header past p burst ≡ true)
issues-by-one plan past p burst s =
    elim (reads-by-one plan past p burst s) [
      | inl none ↦ inl (all-implied issues_no_read issues_none silent-none burst none)
      | inr on ↦ inr on
    ]
