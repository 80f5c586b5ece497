use Rattle.ace_script.proofs.EveryReading.{some_reading}
use Rattle.ace_script.proofs.laws.some_reading.Goals as goal

pub returns : goal.returns
returns c = some_reading
