use Rattle.std.proofs.Common.{◌≡◌, ℕ, ◌<◌, false}
use Rattle.ace_model.specs.declared.transactions.Transaction.{Transaction}
use Rattle.ace_model.specs.Plans.{Plan}
use Rattle.ace_model.specs.Trace.{Trace}
use Rattle.ace_home.specs.Home.{HomeStands, IsOf, goes_before}
use Rattle.ace_home.proofs.home.Home.is_first_to_wait.Given as goal

-- none of the ports so far has one that goes before it
abbrev pub invariant-loop-port : goal.invariant-loop-port
invariant-loop-port l =
    (plan : Plan) (past : Trace) (q : ℕ) (y : Transaction) → HomeStands l.fn.self plan past → q < l.port → IsOf plan.header past q y → goes_before plan.header past y l.fn.x ≡ false
