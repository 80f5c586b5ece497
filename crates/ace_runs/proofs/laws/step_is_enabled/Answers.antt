use Rattle.ace_runs.proofs.Turns.{step-enabled}
use Rattle.ace_runs.proofs.laws.step_is_enabled.Goals as goal

pub returns : goal.returns
returns c = step-enabled
