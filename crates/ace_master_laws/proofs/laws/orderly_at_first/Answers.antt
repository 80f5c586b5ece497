use Rattle.ace_master_laws.proofs.MasterLaw.{orderly-first}
use Rattle.ace_master_laws.proofs.laws.orderly_at_first.Goals as goal

pub returns : goal.returns
returns c = orderly-first
