use Rattle.std.proofs.Common.{◌≡◌, ℕ, ◌<◌, false, Some, slice_get}
use Rattle.ace_model.specs.declared.transactions.Transaction.{Transaction}
use Rattle.ace_model.specs.Plans.{Plan}
use Rattle.ace_model.specs.Trace.{Trace}
use Rattle.ace_portck.specs.Pending.{pending_of}
use Rattle.ace_home.specs.Home.{HomeStands, goes_before}
use Rattle.ace_home.proofs.home.Home.has_older.Given as goal

-- none so far goes before it
abbrev pub invariant-loop-i : goal.invariant-loop-i
invariant-loop-i l =
    (plan : Plan) (past : Trace) (k : ℕ) (y : Transaction) → HomeStands l.fn.self plan past → k < l.i → slice_get (pending_of plan.header past l.fn.port l.fn.chan) k ≡ Some y
    → goes_before plan.header past y l.fn.x ≡ false
