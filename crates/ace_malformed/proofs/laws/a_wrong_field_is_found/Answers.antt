use Rattle.ace_malformed.proofs.Found.{wrong_found}
use Rattle.ace_malformed.proofs.laws.a_wrong_field_is_found.Goals as goal

pub returns : goal.returns
returns c = wrong_found
