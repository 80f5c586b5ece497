use Rattle.ace_model.proofs.Dvm.Law.{accepted_dvm_holds}
use Rattle.ace_model.proofs.laws.a_sync_waits_for_all.Goals as goal

pub returns : goal.returns
returns c = accepted_dvm_holds
