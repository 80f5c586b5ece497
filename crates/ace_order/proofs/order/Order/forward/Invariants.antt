use Rattle.std.proofs.Common.{◌≡◌, ℕ}
use Rattle.ace_model.specs.Plans.{Plan}
use Rattle.ace_model.specs.Trace.{Trace}
use Rattle.ace_runs.specs.Bursts.{onto}
use Rattle.ace_order.specs.Messages.{given_below}
use Rattle.ace_order.specs.Order.{IsCurrent, IsForwardable, OrderStands}
use Rattle.ace_order.proofs.order.Order.forward.Given as goal

-- the ports so far have had what they get of the message
abbrev pub invariant-loop-q : goal.invariant-loop-q
invariant-loop-q l =
    (plan : Plan) (past : Trace) (p : ℕ) → OrderStands l.initial.self plan past → IsForwardable plan.header past p l.message
    → (l.out ≡ given_below plan.header past l.message l.q) × IsCurrent l.self plan (onto (given_below plan.header past l.message l.q) past)
