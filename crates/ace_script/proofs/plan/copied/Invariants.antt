use Rattle.std.proofs.Common.{◌≡◌, ◌≤◌, length}
use Rattle.ace_script.proofs.CopiedPlans.{copied_so_far}
use Rattle.ace_script.proofs.plan.copied.Given as goal

abbrev pub invariant-loop-o : goal.invariant-loop-o
invariant-loop-o l = record {
  within : l.o-index ≤ length l.view.plan.operations;
  copied : l.copy ≡ copied_so_far l.view l.o-index;
}
