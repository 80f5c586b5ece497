use Rattle.std.proofs.Common.{take}
use Rattle.ace_model.specs.Plans.{Plan}
use Rattle.ace_model.specs.Trace.{Trace}
use Rattle.ace_runs.specs.Bursts.{onto}
use Rattle.ace_engine.specs.Engines.{IsLegal}
use Rattle.ace_fabric.specs.Left.{LeftStands}
use Rattle.ace_fabric.proofs.left.Left.hear_all.Given as goal

abbrev pub invariant-loop-i : goal.invariant-loop-i
invariant-loop-i l = (plan : Plan) (past : Trace) → LeftStands l.fn.self plan past → IsLegal plan (onto l.burst past) → LeftStands l.self plan (onto (take l.i l.burst) past)
