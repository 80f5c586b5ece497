use Rattle.std.proofs.Common.{◌≡◌, ◌≤◌, ◌++◌}
use Rattle.std.specs.List.{AllByRecursion}
use Rattle.ace_cover_script.specs.Covering.{covering_count, drawn}
use Rattle.ace_cover_script.specs.Shapes.{header_of, policy_of}
use Rattle.ace_cover_script.proofs.Covering.{IsParted}
use Rattle.ace_cover_script.proofs.plan.plan_of.Given as goal

abbrev pub invariant-loop-left : goal.invariant-loop-left
invariant-loop-left l = record {
  same_shape : l.shape ≡ l.fn.shape;
  same_number : l.n ≡ l.fn.n;
  to_the_count : l.left ≤ 1024;
  room : l.plan.room ≡ l.left;
  header : l.plan.plan.header ≡ header_of l.fn.shape;
  ways : l.plan.plan.ways ≡ l.fn.shape.ways;
  policy : l.plan.plan.policy ≡ policy_of l.fn.n;
  parted : AllByRecursion (λ o. IsParted o.op) l.plan.plan.operations;
  operations : l.plan.plan.operations ++ drawn l.fn.shape l.left l.words ≡ drawn l.fn.shape covering_count l.fn.words;
}

abbrev pub decreases-loop-left : goal.decreases-loop-left
decreases-loop-left l = l.left
