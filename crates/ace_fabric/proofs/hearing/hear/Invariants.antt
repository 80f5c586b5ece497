use Rattle.std.proofs.Common.{◌≡◌, ℕ, true, take}
use Rattle.ace_model.specs.Plans.{Plan}
use Rattle.ace_model.specs.Trace.{Trace}
use Rattle.ace_runs.specs.Bursts.{onto}
use Rattle.ace_engine.specs.Engines.{IsLegal}
use Rattle.ace_fabric.specs.Parts.{NoneGiven}
use Rattle.ace_fabric.proofs.hearing.hear.Given as goal

abbrev pub invariant-loop-i : goal.invariant-loop-i
invariant-loop-i g l = record {
  serves : (p : ℕ) → g.E.Engine.serves l.engine p ≡ g.E.Engine.serves l.initial.engine p;
  stands : (plan : Plan) (past : Trace) → g.E.Engine.stands l.initial.engine plan past → IsLegal plan (onto l.burst past)
      → ((p : ℕ) → g.E.Engine.serves l.initial.engine p ≡ true → NoneGiven g.E.Engine.kind p past l.burst) → g.E.Engine.stands l.engine plan (onto (take l.i l.burst) past);
}
