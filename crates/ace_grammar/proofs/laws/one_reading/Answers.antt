use Rattle.ace_grammar.proofs.Readings.OneReading.{one_reading, no_bad_header, one_bad_header}
use Rattle.ace_grammar.proofs.laws.one_reading.Goals as goal

pub returns-clause-one : goal.returns-clause-one
returns-clause-one c most = one_reading

pub returns-clause-apart : goal.returns-clause-apart
returns-clause-apart c most = no_bad_header

pub returns-clause-one_bad : goal.returns-clause-one_bad
returns-clause-one_bad c = one_bad_header
