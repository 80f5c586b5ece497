use Rattle.std.proofs.Common.{◌≡◌, ℕ, ◌<◌, ◌&&◌, false}
use Rattle.ace_model.specs.Plans.{Plan}
use Rattle.ace_model.specs.Trace.{Trace}
use Rattle.ace_runs.specs.Bursts.{is_kept}
use Rattle.ace_runs.specs.LineSteps.{snoop_for}
use Rattle.ace_home.specs.Home.{HomeStands}
use Rattle.ace_home.proofs.home.Home.has_snoop.Given as goal

-- none of the ports of the set so far may be snooped for it
abbrev pub invariant-loop-port : goal.invariant-loop-port
invariant-loop-port g l =
    (plan : Plan) (past : Trace) (q : ℕ) → HomeStands l.fn.self plan past → q < l.port → (g.F.Among.has l.fn.among l.fn.x.transaction.addr q && is_kept plan.header past (snoop_for l.fn.x.transaction l.kind q)) ≡ false
