use Rattle.std.proofs.Common.{◌≡◌, ℕ, ◌<◌, false, Some, slice_get}
use Rattle.ace_event.specs.declared.event.Channel.TheVariants.{Read}
use Rattle.ace_model.specs.declared.transactions.Transaction.{Transaction}
use Rattle.ace_model.specs.Plans.{Plan}
use Rattle.ace_model.specs.Trace.{Trace}
use Rattle.ace_runs.specs.Bursts.{may_begin}
use Rattle.ace_runs.specs.OrderSteps.{dvm_burst}
use Rattle.ace_portck.specs.Pending.{pending_of}
use Rattle.ace_order.specs.Order.{OrderStands}
use Rattle.ace_order.proofs.AnsweredInOrder.{Unanswered}
use Rattle.ace_order.proofs.order.Order.respondable.Given as goal

-- none of the reads so far may have its R
abbrev pub none-so-far : goal.invariant-loop-i
none-so-far l =
    (plan : Plan) (past : Trace) (k : ℕ) (x : Transaction) → OrderStands l.fn.self plan past → k < l.i → slice_get (pending_of plan.header past l.fn.port Read) k ≡ Some x
    → may_begin plan.header past (dvm_burst plan.header past x) ≡ false

-- and the place is that of one of them, a part without R
abbrev pub first-so-far : goal.invariant-loop-i
first-so-far l =
    (n : ℕ) (plan : Plan) (past : Trace) → l.unanswered ≡ Some n → OrderStands l.fn.self plan past → Unanswered plan.header past l.fn.port l.i n

abbrev pub invariant-loop-i : goal.invariant-loop-i
invariant-loop-i l = none-so-far l × first-so-far l
