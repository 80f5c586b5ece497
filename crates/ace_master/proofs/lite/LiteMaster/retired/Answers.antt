use Rattle.std.proofs.Common.{arith}
use Rattle.ace_master.proofs.Retirements.{few-retired}
use Rattle.ace_master.specs.Lite.{port_of}
use Rattle.ace_master.proofs.lite.LiteMaster.retired.Goals as goal

pub returns : goal.returns
returns c = λ plan past s.
    let few = few-retired plan past (port_of c.args.self.now) s.port.legal.right s.port.legal.follows in
    let is = c.retired.ensures plan.header past (port_of c.args.self.now) s.port.kept in
    omega (arith, few, is)
