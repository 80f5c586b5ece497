use Rattle.ace_io.proofs.Cutting.{one_cutting}
use Rattle.ace_io.proofs.laws.one_cutting.Goals as goal

pub returns : goal.returns
returns c = one_cutting
