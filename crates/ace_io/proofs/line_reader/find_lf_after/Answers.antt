use Rattle.std.proofs.Common.{arith}
use Rattle.std.proofs.lemmas.Grind.{common_steps}
use Rattle.ace_io.proofs.LineFeeds.{joined, joined_whole, from_here}
use Rattle.ace_io.proofs.line_reader.find_lf_after.Goals as goal

pub returns-in-Some : goal.returns-in-Some
returns-in-Some c = (
  grind (arith, common_steps, c.in-Some.ensures.0),
  joined _ _ _ c.requires.no_lf (simp from_here at c.in-Some.ensures.1),
  grind (arith, common_steps, c.in-Some.ensures.2),
)

pub returns-in-None : goal.returns-in-None
returns-in-None c = joined_whole _ _ c.requires.no_lf (simp from_here at c.in-None.ensures)
