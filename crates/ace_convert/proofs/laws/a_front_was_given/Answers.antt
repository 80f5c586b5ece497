use Rattle.ace_convert.proofs.OneConversion.{front_given, fault_given}
use Rattle.ace_convert.proofs.laws.a_front_was_given.Goals as goal

pub returns-clause-written : goal.returns-clause-written
returns-clause-written c = front_given

pub returns-clause-failed : goal.returns-clause-failed
returns-clause-failed c = fault_given
