use Rattle.std.proofs.lemmas.Bool.{eq-eqb}
use Rattle.std.proofs.lemmas.Nat.Bits.{bit_at_ones}
use Rattle.ace_model.proofs.among.AllPortsAmong.may.Goals as goal

pub returns : goal.returns
returns c p low = eq-eqb _ 1 (bit_at_ones 32 p low)
