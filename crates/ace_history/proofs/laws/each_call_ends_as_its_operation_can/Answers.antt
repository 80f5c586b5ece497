use Rattle.ace_history.proofs.Ending.{legal-ends}
use Rattle.ace_history.proofs.laws.each_call_ends_as_its_operation_can.Goals as goal

pub returns : goal.returns
returns c = legal-ends
