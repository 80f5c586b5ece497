use Rattle.ace_runs.proofs.NeverStuck.OrderMoves.{order-moves}
use Rattle.ace_runs.proofs.laws.barrier_or_message_has_a_step.Goals as goal

pub returns : goal.returns
returns c = order-moves
