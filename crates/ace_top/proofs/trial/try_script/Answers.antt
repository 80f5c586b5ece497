use Rattle.std.proofs.Common.{◌≡◌, ap, subst, ◌∙◌}
use Rattle.ace_model.specs.Plans.{Plan, PlanWithRoom}
use Rattle.ace_script.specs.Generated.{generated}
use Rattle.ace_fabric.specs.Runs.{Run}
use Rattle.ace_whole_runs.specs.Runs.{IsRunOf}
use Rattle.ace_top.proofs.trial.try_script.Goals as goal

pub returns : goal.returns
returns c =
    let drained = c.drain.new.self in
    let same : drained.plan ≡ generated c.args.number =
    ap (λ (r : Run). r.plan) c.drain.ensures.kept.1 ∙ ap (λ (r : Run). r.plan) c.in_ok-system.ensures ∙ ap (λ (v : PlanWithRoom). v.plan) c.in_ok-plan.ensures
    in
    (drained.past, subst (λ (plan : Plan). IsRunOf plan drained.past) same c.is_run.ensures, c.events_of.ensures)
