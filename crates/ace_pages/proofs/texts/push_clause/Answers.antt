use Rattle.std.proofs.Common.{sym}
use Rattle.ace_pages.specs.Pages.{clause_lines}
use Rattle.ace_pages.proofs.texts.push_clause.Goals as goal

pub returns : goal.returns
unfolding clause_lines
returns c = rw (sym c.wrong_with-sentence.ensures) c.push_lines.ensures
