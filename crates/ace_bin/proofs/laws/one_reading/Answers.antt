use Rattle.ace_bin.proofs.Readings.OneReading.{one_reading, no_bad_header, one_bad_header}
use Rattle.ace_bin.proofs.laws.one_reading.Goals as goal

pub returns-clause-one : goal.returns-clause-one
returns-clause-one c = one_reading

pub returns-clause-apart : goal.returns-clause-apart
returns-clause-apart c = no_bad_header

pub returns-clause-one_bad : goal.returns-clause-one_bad
returns-clause-one_bad c = one_bad_header
