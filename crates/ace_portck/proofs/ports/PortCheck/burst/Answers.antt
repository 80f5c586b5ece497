use Rattle.ace_portck.proofs.ports.PortCheck.burst.Goals as goal

pub returns : goal.returns
returns c = λ r line s. c.burst.ensures r.header r.past c.args.port line (c.kept.ensures r s).bursts
