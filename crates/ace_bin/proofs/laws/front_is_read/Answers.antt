use Rattle.ace_bin.proofs.Readings.Fronts.{front_is_read, front_is_good}
use Rattle.ace_bin.proofs.laws.front_is_read.Goals as goal

pub returns-clause-front : goal.returns-clause-front
returns-clause-front c = front_is_read

pub returns-clause-apart : goal.returns-clause-apart
returns-clause-apart c = front_is_good
