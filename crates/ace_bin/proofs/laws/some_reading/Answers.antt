use Rattle.ace_bin.proofs.Readings.EveryReading.{some_reading}
use Rattle.ace_bin.proofs.laws.some_reading.Goals as goal

pub returns : goal.returns
returns c = some_reading
