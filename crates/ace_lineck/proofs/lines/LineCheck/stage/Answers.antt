use Rattle.std.proofs.Common.{Some, ap, ◌∙◌}
use Rattle.ace_lineck.proofs.Terms.{LineRecord}
use Rattle.ace_lineck.specs.Grants.{stage_under}
use Rattle.ace_lineck.proofs.PortLooks.{stage-granted}
use Rattle.ace_lineck.proofs.lines.LineCheck.stage.Goals as goal

pub returns : goal.returns
returns c r l x s at there =
    c.stage_under.ensures ∙ ap (λ (v : LineRecord). stage_under v.grant c.args.port) (c.record.ensures (Some l) at)
    ∙ stage-granted r.header r.past c.args.port l x _ (s.lines l).grant there
