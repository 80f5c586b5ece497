use Rattle.ace_convert.proofs.OneConversion.{there_and_back}
use Rattle.ace_convert.proofs.laws.there_and_back.Goals as goal

pub returns : goal.returns
returns c = there_and_back
