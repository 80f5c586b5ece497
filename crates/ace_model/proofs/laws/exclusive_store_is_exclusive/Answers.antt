use Rattle.ace_model.proofs.Exclusives.Law.{accepted_exclusive_holds}
use Rattle.ace_model.proofs.laws.exclusive_store_is_exclusive.Goals as goal

pub returns : goal.returns
returns c = accepted_exclusive_holds
