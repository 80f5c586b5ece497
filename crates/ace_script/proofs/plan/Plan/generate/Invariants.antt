use Rattle.std.proofs.Common.{◌≡◌, ◌+◌, ◌≤◌, ◌++◌, length}
use Rattle.rand_pcg.specs.Lcg.{started, increment_of}
use Rattle.rand_pcg.specs.Pcg.{multiplier_64}
use Rattle.ace_model.specs.declared.plans.PolicyWord.TheVariants.{Mixed}
use Rattle.ace_script.specs.Generated.{drawn, generated_count}
use Rattle.ace_script.proofs.GeneratedPlans.{IsDrawn}
use Rattle.ace_script.proofs.plan.Plan.generate.Given as goal

abbrev pub invariant-loop-left : goal.invariant-loop-left
invariant-loop-left l = record {
  to_the_count : l.left ≤ 512;
  no_room : l.view.room ≡ 0;
  ways : l.view.plan.ways ≡ 4;
  policy : l.view.plan.policy ≡ Mixed l.n;
  counted : length l.view.plan.operations + l.left ≡ 512;
  drawn_so_far : IsDrawn l.view.plan;
  operations : l.view.plan.operations ++ drawn l.left l.words ≡ drawn generated_count (started 64 multiplier_64 l.n (increment_of 64 1));
}

abbrev pub decreases-loop-left : goal.decreases-loop-left
decreases-loop-left l = l.left
