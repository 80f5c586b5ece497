use Rattle.ace_runs.proofs.Turns.{steps-further}
use Rattle.ace_runs.proofs.laws.steps_go_on.Goals as goal

pub returns : goal.returns
returns c = steps-further
