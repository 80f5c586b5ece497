use Rattle.ace_model.proofs.Barriers.Law.{accepted_barriers_order}
use Rattle.ace_model.proofs.laws.barriers_order.Goals as goal

pub returns : goal.returns
returns c = accepted_barriers_order
