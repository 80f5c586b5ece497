use Rattle.std.proofs.Common.{◌≡◌, ◌≤◌, ◌==◌, filter, length, map, take}
use Rattle.ace_model.specs.declared.plans.PlanOp.{PlanOp}
use Rattle.ace_fabric.proofs.left.operations_at.Given as goal

abbrev pub invariant-loop-i : goal.invariant-loop-i
invariant-loop-i l = record {
  value : l.count ≡ length (map (λ (o : PlanOp). o.op) (filter (λ (o : PlanOp). o.port == l.port) (take l.i l.plan.plan.operations)));
  low : l.count ≤ l.i;
}
