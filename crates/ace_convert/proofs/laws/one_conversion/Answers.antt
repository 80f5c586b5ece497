use Rattle.ace_convert.proofs.OneConversion.{some_conversion, one_conversion}
use Rattle.ace_convert.proofs.laws.one_conversion.Goals as goal

pub returns-clause-some : goal.returns-clause-some
returns-clause-some c = some_conversion

pub returns-clause-one : goal.returns-clause-one
returns-clause-one c = one_conversion
