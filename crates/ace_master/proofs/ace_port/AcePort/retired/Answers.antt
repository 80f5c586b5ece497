use Rattle.std.proofs.Common.{arith}
use Rattle.ace_master.proofs.Retirements.{few-retired}
use Rattle.ace_master.proofs.ace_port.AcePort.retired.Goals as goal

pub returns : goal.returns
returns c = λ plan past s.
    let p = c.args.self.now.port in
    let few = few-retired plan past p s.kept.legal.right s.kept.legal.follows in
    let is = c.retired.ensures plan.header past p s.kept.port in
    omega (arith, few, is)
