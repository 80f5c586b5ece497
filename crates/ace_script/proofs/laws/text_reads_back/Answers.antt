use Rattle.ace_script.proofs.OneReading.{text_reads_back}
use Rattle.ace_script.proofs.laws.text_reads_back.Goals as goal

pub returns : goal.returns
returns c = text_reads_back
