use Rattle.std.proofs.Common.{◌∙◌}
use Rattle.ace_lineck.proofs.LinelessBeats.{lineless-beat-rule}
use Rattle.ace_lineck.proofs.lines.LineCheck.rule_of_lineless_r.Goals as goal

pub returns : goal.returns
returns c = λ r port id last x k s out kind lineless first port_known.
    c.rule_of_dataless.ensures
    ∙ lineless-beat-rule r.header r.past port id c.args.resp last c.args.word x k out kind lineless c.args.self.now.empty s.accepted first
