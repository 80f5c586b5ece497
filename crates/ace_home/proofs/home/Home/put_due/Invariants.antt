use Rattle.std.proofs.Common.{◌≡◌, ◌⊎◌, ℕ, ◌<◌, Some, slice_get}
use Rattle.ace_model.specs.Plans.{Plan}
use Rattle.ace_model.specs.Trace.{Trace}
use Rattle.ace_portck.specs.Pending.{pending_of}
use Rattle.ace_home.specs.Home.{HomeStands}
use Rattle.ace_home.specs.Turns.{IsBefore, IsFirstOf}
use Rattle.ace_home.proofs.home.Home.put_due.Given as goal

-- the first step for those before and the transactions so far
abbrev pub invariant-loop-i : goal.invariant-loop-i
invariant-loop-i g l =
    (plan : Plan) (past : Trace) → HomeStands l.fn.self plan past
    → IsFirstOf (g.F.Among.has l.fn.among) plan.header past l.fn.port (IsBefore plan.header past l.fn.port l.fn.chan) l.initial.first
    → IsFirstOf (g.F.Among.has l.fn.among) plan.header past l.fn.port (λ y. IsBefore plan.header past l.fn.port l.fn.chan y ⊎ (k : ℕ) × (k < l.i) × (slice_get (pending_of plan.header past l.fn.port l.fn.chan) k ≡ Some y)) l.first
