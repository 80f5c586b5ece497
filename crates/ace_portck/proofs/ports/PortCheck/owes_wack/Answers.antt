use Rattle.std.proofs.Common.{◌∙◌}
use Rattle.ace_portck.proofs.SnoopLaws.{owes_wack_is}
use Rattle.ace_portck.proofs.ports.PortCheck.owes_wack.Goals as goal

pub returns : goal.returns
returns c = λ r s. c.has_complete_on.ensures ∙ owes_wack_is r.header r.past c.args.port c.args.line c.writes.result.now (c.writes.ensures r s)
