use Rattle.ace_grammar.proofs.Readings.EveryReading.{some_reading_within}
use Rattle.ace_grammar.proofs.laws.some_reading.Goals as goal

pub returns : goal.returns
returns c = some_reading_within
