use Rattle.ace_model.specs.Plans.{Plan}
use Rattle.ace_model.specs.Trace.{Trace}
use Rattle.ace_home.specs.Home.{HomeStands}
use Rattle.ace_home.proofs.home.Home.look_each.Given as goal

-- it stands
abbrev pub invariant-loop-port : goal.invariant-loop-port
invariant-loop-port l = (plan : Plan) (past : Trace) → HomeStands l.initial.self plan past → HomeStands l.self plan past
