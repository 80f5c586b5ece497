use Rattle.std.proofs.Common.{Some, ap, ◌∙◌}
use Rattle.ace_lineck.proofs.Terms.{Grant, LineRecord, is_some_and}
use Rattle.ace_lineck.proofs.PortLooks.{begun-granted}
use Rattle.ace_lineck.proofs.lines.LineCheck.is_begun.Goals as goal

pub returns : goal.returns
returns c r l s at =
    c.is_begun_under.ensures ∙ ap (λ (v : LineRecord). is_some_and v.grant (λ (g : Grant). g.begun)) (c.record.ensures (Some l) at)
    ∙ begun-granted r.header r.past l _ (s.lines l).grant
