use Rattle.ace_whole_runs.proofs.WholeRuns.{whole-run}
use Rattle.ace_whole_runs.proofs.laws.each_right_plan_has_a_run.Goals as goal

pub returns : goal.returns
returns c = whole-run
