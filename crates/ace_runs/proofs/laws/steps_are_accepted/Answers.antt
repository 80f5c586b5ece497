use Rattle.ace_runs.proofs.Turns.{steps-accepted}
use Rattle.ace_runs.proofs.laws.steps_are_accepted.Goals as goal

pub returns : goal.returns
returns c = steps-accepted
