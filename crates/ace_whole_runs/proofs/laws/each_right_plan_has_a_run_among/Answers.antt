use Rattle.ace_whole_runs.proofs.WholeRuns.{whole-run-among}
use Rattle.ace_whole_runs.proofs.laws.each_right_plan_has_a_run_among.Goals as goal

pub returns : goal.returns
returns c sets plan right holders =
    let w = whole-run-among sets plan right holders in
    (w.0, w.1.run, w.1.among)
