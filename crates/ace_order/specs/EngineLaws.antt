-- What the trait of engines asks of them beside their calls.
use Rattle.std.specs.Prelude.{◌≡◌, true, false}
use Rattle.ace_model.specs.declared.plans.PlanOp.{PlanOp}
use Rattle.ace_model.specs.Plans.{IsRight, Plan, longer}
use Rattle.ace_model.specs.Trace.{Trace}
use Rattle.ace_engine.specs.Engines.{IsLegal, Order as OfOrder, is_their_operation}
use Rattle.ace_engine.proofs.LongerPlans.{legal-longer}
use Rattle.ace_order.specs.Order.{OrderStands}
use Rattle.ace_order.specs.declared.order.Order.{Order}

pub legal : (s : Order) (plan : Plan) (past : Trace) → OrderStands s plan past → IsLegal plan past
legal s plan past stands = stands.current.legal

-- it doesn't look at the operations of the plan
pub grows : (s : Order) (plan : Plan) (past : Trace) (o : PlanOp)
    → OrderStands s plan past → IsRight (longer plan o)
    → is_their_operation OfOrder (λ _. true) o ≡ false → OrderStands s (longer plan o) past
grows s plan past o stands right other = record {
  current = record {
    legal = legal-longer plan past o stands.current.legal right;
    header = stands.current.header;
    ports = stands.current.ports;
    snoops = stands.current.snoops;
    system = stands.current.system;
    lines = stands.current.lines;
    waiting = stands.current.waiting;
    quiet = stands.current.quiet;
    senders = stands.current.senders;
  };
  answered = stands.answered;
  forwarded = stands.forwarded;
}
