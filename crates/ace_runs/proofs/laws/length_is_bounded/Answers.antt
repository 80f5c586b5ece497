use Rattle.ace_runs.proofs.Few.Bound.{few-events}
use Rattle.ace_runs.proofs.laws.length_is_bounded.Goals as goal

pub returns : goal.returns
returns c = few-events
