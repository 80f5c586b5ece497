use Rattle.std.proofs.Common.{arith}
use Rattle.ace_master_state.proofs.Retirements.{few-retired}
use Rattle.ace_master_state.proofs.kept.Kept.retired.Goals as goal

pub returns : goal.returns
returns c = λ plan past p k.
    let few = few-retired plan past p k.legal.right k.legal.follows in
    let is = c.retired.ensures plan.header past p k.port in
    omega (arith, few, is)
