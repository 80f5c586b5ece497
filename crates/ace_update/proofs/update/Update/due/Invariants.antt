use Rattle.std.proofs.Common.{◌≡◌, ℕ, ◌<◌, false, Some, slice_get}
use Rattle.ace_event.specs.declared.event.Channel.TheVariants.{Write}
use Rattle.ace_model.specs.declared.transactions.Transaction.{Transaction}
use Rattle.ace_model.specs.Plans.{Plan}
use Rattle.ace_model.specs.Trace.{Trace}
use Rattle.ace_runs.specs.Bursts.{may_begin}
use Rattle.ace_runs.specs.LineSteps.{update_burst}
use Rattle.ace_portck.specs.Pending.{pending_of}
use Rattle.ace_update.specs.Update.{UpdateStands}
use Rattle.ace_update.proofs.update.Update.due.Given as goal

-- none of the writes so far may have its burst
abbrev pub invariant-loop-i : goal.invariant-loop-i
invariant-loop-i l =
    (plan : Plan) (past : Trace) (k : ℕ) (x : Transaction) → UpdateStands l.fn.self plan past → k < l.i → slice_get (pending_of plan.header past l.fn.port Write) k ≡ Some x
    → may_begin plan.header past (update_burst plan.header past x) ≡ false
