use Rattle.std.proofs.Common.{rules, arith, ◌∙◌}
use Rattle.std.proofs.lemmas.List.{length-append}
use Rattle.ace_script.proofs.GeneratedPlans.{one_drawn, next_of_words, generated_whole}
use Rattle.ace_script.proofs.plan.Plan.generate.Goals as goal

pub loop-left-preserved : goal.loop-left-preserved
loop-left-preserved c =
    let added = c.in_ok-add.ensures.ok in
    let was = c.loop-left.invariant in
    record {
      to_the_count = omega (arith, was.to_the_count);
      no_room = rw added was.no_room;
      ways = rw added was.ways;
      policy = rw added was.policy;
      counted = rw (added, length-append) (omega (arith, was.counted, c.loop-left-test.true));
      drawn_so_far = rw (added, c.drawn_operation.ensures) (one_drawn _ _ _ (search rules) (omega (arith, was.counted, c.loop-left-test.true)) was.drawn_so_far);
      operations = rw (added, c.drawn_operation.ensures) (next_of_words _ _ _ _ _ _ _ _ c.loop-left-test.true c.next_word-x.ensures c.next_word-y.ensures was.operations);
    }

pub returns : goal.returns
returns c =
    let was = c.loop-left.invariant in
    c.of_view.ensures ∙ generated_whole _ c.args.n c.loop-left.left c.loop-left.words (omega (arith, c.loop-left-test.false)) was.drawn_so_far was.ways was.policy was.no_room was.operations
