use Rattle.std.proofs.Common.{arith}
use Rattle.std.proofs.lemmas.Grind.{common_steps}
use Rattle.ace_pages.proofs.Steps.{part_step}
use Rattle.ace_pages.specs.Pages.{letters}
use Rattle.ace_pages.proofs.texts.push_clauses.Goals as goal

pub loop-letter-preserved : goal.loop-letter-preserved
loop-letter-preserved c =
    let step = part_step c.args.rule letters c.loop-letter.letter-index c.loop-letter-test.true in
    grind (arith, common_steps, step)
