use Rattle.ace_script.proofs.LineReasons.{operation_or_reason, same_reason, operation_has_none}
use Rattle.ace_script.proofs.laws.one_reason.Goals as goal

pub returns-clause-some : goal.returns-clause-some
returns-clause-some c = operation_or_reason

pub returns-clause-one : goal.returns-clause-one
returns-clause-one c = same_reason

pub returns-clause-apart : goal.returns-clause-apart
returns-clause-apart c = operation_has_none
