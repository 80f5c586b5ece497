use Rattle.std.proofs.Common.{◌<◌, ℕ, subst}
use Rattle.ace_runs.specs.Follows.{Done}
use Rattle.ace_runs.specs.Steps.{Enabled}
use Rattle.ace_fabric.specs.Runs.{Run}
use Rattle.ace_fabric.proofs.system.System.keeps.Goals as goal

pub returns-clause-goes_on : goal.returns-clause-goes_on
returns-clause-goes_on c =
    subst (λ (r : Run). (Done r.plan r.past → ⊥) → (p : ℕ) × (p < r.plan.header.ports) × Enabled r.plan r.past p) c.self.view_is c.keeps.ensures.goes_on
