-- What the trait of engines asks of them beside their calls.
use Rattle.std.specs.Prelude.{◌≡◌, true, false}
use Rattle.ace_model.specs.declared.plans.PlanOp.{PlanOp}
use Rattle.ace_model.specs.Plans.{IsRight, Plan, longer}
use Rattle.ace_model.specs.Trace.{Trace}
use Rattle.ace_engine.specs.Engines.{IsLegal, Home as OfLines, is_their_operation}
use Rattle.ace_engine.proofs.LongerPlans.{legal-longer}
use Rattle.ace_home.specs.Home.{HomeStands}
use Rattle.ace_home.specs.declared.home.Home.{Home}

pub legal : (s : Home) (plan : Plan) (past : Trace) → HomeStands s plan past → IsLegal plan past
legal s plan past stands = stands.legal

-- it doesn't look at the operations of the plan
pub grows : (s : Home) (plan : Plan) (past : Trace) (o : PlanOp)
    → HomeStands s plan past → IsRight (longer plan o)
    → is_their_operation OfLines (λ _. true) o ≡ false → HomeStands s (longer plan o) past
grows s plan past o stands right other = record {
  legal = legal-longer plan past o stands.legal right;
  shares = stands.shares;
  header = stands.header;
  users = stands.users;
  resting = stands.resting;
}
