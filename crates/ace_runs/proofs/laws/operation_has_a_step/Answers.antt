use Rattle.ace_runs.proofs.NeverStuck.OperationsMove.{some-operation-moves}
use Rattle.ace_runs.proofs.laws.operation_has_a_step.Goals as goal

pub returns : goal.returns
returns c plan past right s f answers none none_owed undone = some-operation-moves plan past answers none none_owed right s f undone
