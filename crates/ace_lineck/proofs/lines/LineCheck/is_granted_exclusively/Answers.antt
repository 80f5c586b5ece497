use Rattle.std.proofs.Common.{Some, ◌∙◌, ap}
use Rattle.ace_lineck.proofs.Terms.{is_some_and, Grant, LineRecord}
use Rattle.ace_lineck.proofs.AllLines.{lock-granted}
use Rattle.ace_lineck.proofs.lines.LineCheck.is_granted_exclusively.Goals as goal

pub returns : goal.returns
returns c r l s q =
    c.is_granted_exclusively.ensures ∙ ap (λ (v : LineRecord). is_some_and v.grant (λ (g : Grant). g.transaction.lock)) (c.record.ensures (Some l) q)
    ∙ lock-granted r.header r.past l _ (s.lines l).grant
