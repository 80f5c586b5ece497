use Rattle.std.proofs.Common.{eq-eqb, eqb-true}
use Rattle.ace_bin.proofs.Headers.{no_bit_above}
use Rattle.ace_bin.proofs.header.has_no_other.Goals as goal

pub returns : goal.returns
returns c =
    let above = no_bit_above c.args.ace c.args.ports in
    (λ is. above.0 (eqb-true _ _ is), λ below. eq-eqb _ _ (above.1 below))
