use Rattle.std.proofs.Common.{arith}
use Rattle.std.proofs.lemmas.Grind.{common_steps}
use Rattle.ace_svg.proofs.Steps.{byte_step}
use Rattle.ace_svg.proofs.escaping.push_escaped.Goals as goal

pub loop-byte-preserved : goal.loop-byte-preserved
loop-byte-preserved c =
    let step = byte_step c.args.words.now c.loop-byte.byte-index c.loop-byte-test.true in
    grind (arith, common_steps, step)
