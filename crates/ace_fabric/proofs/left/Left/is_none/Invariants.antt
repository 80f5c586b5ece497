use Rattle.std.proofs.Common.{◌≡◌, ◌<◌, ℕ, true}
use Rattle.ace_model.specs.Plans.{Plan}
use Rattle.ace_model.specs.Trace.{Trace}
use Rattle.ace_fabric.specs.Left.{LeftStands, is_port_done}
use Rattle.ace_fabric.proofs.left.Left.is_none.Given as goal

-- each of the ports so far is done
abbrev pub invariant-loop-port : goal.invariant-loop-port
invariant-loop-port l = (plan : Plan) (past : Trace) → LeftStands l.self plan past → (p : ℕ) → p < l.port → is_port_done plan past p ≡ true
