use Rattle.std.proofs.Common.{arith}
use Rattle.std.proofs.lemmas.Grind.{common_steps}
use Rattle.ace_cover.proofs.Repeating.{byte_step}
use Rattle.ace_cover.proofs.columns.push_times.Goals as goal

pub loop-done-preserved : goal.loop-done-preserved
loop-done-preserved c =
    let step = byte_step c.args.count c.args.byte c.loop-done.done (omega (arith, c.loop-done-test.true)) in
    grind (arith, common_steps, step)
