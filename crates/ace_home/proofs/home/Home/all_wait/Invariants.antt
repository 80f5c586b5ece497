use Rattle.std.proofs.Common.{◌≡◌, ℕ, ◌+◌, ◌≤◌, Some, length, slice_get}
use Rattle.ace_model.specs.declared.transactions.Transaction.{Transaction}
use Rattle.ace_model.specs.Plans.{Plan}
use Rattle.ace_model.specs.Trace.{Trace}
use Rattle.ace_portck.specs.Pending.{pending_of}
use Rattle.ace_home.specs.Home.{HomeStands}
use Rattle.ace_home.specs.Resting.{HasToWait}
use Rattle.ace_home.proofs.home.Home.all_wait.Given as goal

-- those so far, from the last one on, have to wait
abbrev pub invariant-loop-i : goal.invariant-loop-i
invariant-loop-i l =
    (plan : Plan) (past : Trace) (k : ℕ) (y : Transaction) → HomeStands l.fn.self plan past → length l.queue ≤ k + l.i → slice_get (pending_of plan.header past l.fn.port l.fn.chan) k ≡ Some y
    → HasToWait plan.header past y
