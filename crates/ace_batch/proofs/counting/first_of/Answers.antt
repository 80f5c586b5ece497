use Rattle.std.proofs.Common.{arith}
use Rattle.std.proofs.lemmas.Grind.{common_steps}
use Rattle.ace_batch.proofs.CountSteps.{order_step}
use Rattle.ace_batch.specs.Counts.{order}
use Rattle.ace_batch.proofs.counting.first_of.Goals as goal

pub returns-then-has_any-clause-value : goal.returns-then-has_any-clause-value
returns-then-has_any-clause-value c =
    let step = order_step order c.args.entries.now c.loop-status.status-index 0 c.loop-status-test.true in
    grind (arith, common_steps, step)

pub loop-status-preserved : goal.loop-status-preserved
loop-status-preserved c =
    let step = order_step order c.args.entries.now c.loop-status.status-index 0 c.loop-status-test.true in
    grind (arith, common_steps, step)
