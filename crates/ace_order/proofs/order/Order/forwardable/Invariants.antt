use Rattle.std.proofs.Common.{◌≡◌, ℕ, ◌<◌, Some}
use Rattle.ace_model.specs.Plans.{Plan}
use Rattle.ace_model.specs.Trace.{Trace}
use Rattle.ace_sysck.specs.declared.inboxes.Message.{Message}
use Rattle.ace_order.specs.Messages.{next_for}
use Rattle.ace_order.specs.Order.{OrderStands}
use Rattle.ace_order.proofs.order.Order.forwardable.Given as goal

-- no message of the port is the next for one of the ports so far
abbrev pub invariant-loop-q : goal.invariant-loop-q
invariant-loop-q l =
    (plan : Plan) (past : Trace) (r : ℕ) (n : Message) → OrderStands l.fn.self plan past → r < l.q → next_for plan.header past r ≡ Some n → n.first.port ≡ l.fn.port → ⊥
