use Rattle.ace_model.proofs.KeptPorts.{accepted_keeps_holders}
use Rattle.ace_model.proofs.laws.kept_ports_hold_all.Goals as goal

pub returns : goal.returns
returns c = accepted_keeps_holders
