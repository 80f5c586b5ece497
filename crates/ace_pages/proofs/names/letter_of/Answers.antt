use Rattle.std.proofs.Common.{arith}
use Rattle.std.proofs.lemmas.Grind.{common_steps}
use Rattle.ace_pages.proofs.Steps.{letter_step}
use Rattle.ace_pages.specs.Pages.{letters}
use Rattle.ace_pages.proofs.names.letter_of.Goals as goal
use Rattle.ace_pages.proofs.names.letter_of.Goals.{else-is_clause-via-then-is_clause+else-is_name, else-is_clause-via-else-is_clause}

-- this letter is not that of the clause
pub loop-letter-preserved : goal.loop-letter-preserved
loop-letter-preserved c =
    let step = letter_step c.args.word.now c.args.rule letters c.loop-letter.letter-index c.loop-letter-test.true in
    elim c.else-is_clause.branch [
      | else-is_clause-via-then-is_clause+else-is_name w ↦ grind (arith, common_steps, step)
      | else-is_clause-via-else-is_clause w ↦ grind (arith, common_steps, step)
    ]
