use Rattle.std.proofs.Common.{◌≡◌, Some}
use Rattle.ace_model.specs.Plans.{Plan}
use Rattle.ace_model.specs.Trace.{Trace}
use Rattle.ace_model.specs.Transactions.{snoop_of}
use Rattle.ace_home.specs.Home.{HomeStands}
use Rattle.ace_home.specs.Turns.{AreSnoops}
use Rattle.ace_home.proofs.home.Home.put_snoops.Given as goal

-- the ports so far have had their snoops
abbrev pub invariant-loop-port : goal.invariant-loop-port
invariant-loop-port g l = (plan : Plan) (past : Trace) → HomeStands l.initial.self plan past → snoop_of l.x ≡ Some l.kind → AreSnoops (g.F.Among.has l.among) l.self plan past l.x l.kind l.port l.out
