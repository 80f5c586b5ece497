use Rattle.std.proofs.Common.{arith}
use Rattle.std.proofs.lemmas.Grind.{common_steps}
use Rattle.ace_batch.proofs.Spaces.{space_step}
use Rattle.ace_batch.proofs.push.push_spaces.Goals as goal

pub loop-done-preserved : goal.loop-done-preserved
loop-done-preserved c =
    let step = space_step c.args.count c.loop-done.done (omega (arith, c.loop-done-test.true)) in
    grind (arith, common_steps, step)
