use Rattle.std.proofs.Common.{◌∙◌}
use Rattle.ace_portck.proofs.SnoopLaws.{has_update_is}
use Rattle.ace_portck.proofs.ports.PortCheck.has_update.Goals as goal

pub returns : goal.returns
returns c = λ r s. c.has_update_on.ensures ∙ has_update_is r.header r.past c.args.port c.args.line c.writes.result.now (c.writes.ensures r s)
