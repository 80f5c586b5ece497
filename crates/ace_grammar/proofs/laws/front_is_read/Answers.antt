use Rattle.ace_grammar.proofs.Readings.Fronts.{front_is_read, front_is_good}
use Rattle.ace_grammar.proofs.laws.front_is_read.Goals as goal

pub returns-clause-front : goal.returns-clause-front
returns-clause-front c most = front_is_read

pub returns-clause-apart : goal.returns-clause-apart
returns-clause-apart c most = front_is_good
