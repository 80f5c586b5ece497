use Rattle.ace_master_laws.proofs.Progress.Come.{orderly-heard}
use Rattle.ace_master_laws.proofs.laws.orderly_while_heard.Goals as goal

pub returns : goal.returns
returns c = orderly-heard
