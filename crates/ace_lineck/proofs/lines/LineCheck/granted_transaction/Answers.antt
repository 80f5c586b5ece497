use Rattle.std.proofs.Common.{Some, ap, ◌∙◌}
use Rattle.ace_lineck.proofs.Terms.{Grant, LineRecord, option_map}
use Rattle.ace_lineck.proofs.PortLooks.{transaction-granted}
use Rattle.ace_lineck.proofs.lines.LineCheck.granted_transaction.Goals as goal

pub returns : goal.returns
returns c r l s at =
    c.transaction_of.ensures ∙ ap (λ (v : LineRecord). option_map (λ (g : Grant). g.transaction) v.grant) (c.record.ensures (Some l) at)
    ∙ transaction-granted r.header r.past l _ (s.lines l).grant
