use Rattle.std.proofs.Common.{length, take}
use Rattle.ace_fabric.specs.Parts.{HasHeard, HaveHeard}
use Rattle.ace_fabric.proofs.hearing.hear_all.Given as goal

abbrev pub invariant-loop-i : goal.invariant-loop-i
invariant-loop-i g l = record {
  one : HasHeard g.A.Engine (take l.i l.burst) l.initial.one l.one;
  other : HasHeard g.B.Engine (take l.i l.burst) l.initial.other l.other;
  engines : HaveHeard g.E.Engine (take l.i l.burst) l.but (length l.initial.engines) l.initial.engines l.engines;
}
