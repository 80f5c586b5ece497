use Rattle.std.proofs.Common.{[], ◌∷◌}
use Rattle.ace_fabric.specs.Parts.{HaveHeard}
use Rattle.ace_fabric.proofs.hearing.hear_each.Given as goal

abbrev pub invariant-loop-k : goal.invariant-loop-k
invariant-loop-k g l = HaveHeard g.E.Engine (l.event ∷ []) l.but l.k l.initial.engines l.engines
