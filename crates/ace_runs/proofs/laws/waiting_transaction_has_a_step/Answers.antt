use Rattle.ace_runs.proofs.NeverStuck.Barriers.WaitingMove.{some-waiting-moves}
use Rattle.ace_runs.proofs.laws.waiting_transaction_has_a_step.Goals as goal

pub returns : goal.returns
returns c = some-waiting-moves
