-- What the trait of engines asks of them beside their calls.
use Rattle.std.specs.Prelude.{◌≡◌, true, false}
use Rattle.ace_model.specs.declared.plans.PlanOp.{PlanOp}
use Rattle.ace_model.specs.Plans.{IsRight, Plan, longer}
use Rattle.ace_model.specs.Trace.{Trace}
use Rattle.ace_engine.specs.Engines.{IsLegal, Update as OfUpdates, is_their_operation}
use Rattle.ace_engine.proofs.LongerPlans.{legal-longer}
use Rattle.ace_update.specs.Update.{UpdateStands}
use Rattle.ace_update.specs.declared.update.Update.{Update}

pub legal : (s : Update) (plan : Plan) (past : Trace) → UpdateStands s plan past → IsLegal plan past
legal s plan past stands = stands.legal

-- it doesn't look at the operations of the plan
pub grows : (s : Update) (plan : Plan) (past : Trace) (o : PlanOp)
    → UpdateStands s plan past → IsRight (longer plan o)
    → is_their_operation OfUpdates (λ _. true) o ≡ false → UpdateStands s (longer plan o) past
grows s plan past o stands right other = record {
  legal = legal-longer plan past o stands.legal right;
  ports = stands.ports;
  room = stands.room;
  passed = stands.passed;
}
