use Rattle.ace_engine.proofs.LongerPlans.{legal-longer}
use Rattle.ace_engine.proofs.laws.legal_for_a_longer_plan.Goals as goal

pub returns : goal.returns
returns c = legal-longer
