use Rattle.ace_side.proofs.OneReading.{own_reading}
use Rattle.ace_side.proofs.laws.text_reads_back.Goals as goal

pub returns : goal.returns
returns c = own_reading
