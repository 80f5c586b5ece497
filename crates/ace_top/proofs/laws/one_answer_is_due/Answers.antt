use Rattle.ace_top.proofs.OneAnswer.{some_answer, one_answer}
use Rattle.ace_top.proofs.OneRun.{one_status}
use Rattle.ace_top.proofs.laws.one_answer_is_due.Goals as goal

pub returns-clause-some : goal.returns-clause-some
returns-clause-some c = some_answer

pub returns-clause-one : goal.returns-clause-one
returns-clause-one c = one_answer

pub returns-clause-status : goal.returns-clause-status
returns-clause-status c = one_status
