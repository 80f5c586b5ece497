use Rattle.ace_grammar.proofs.Readings.Taken.{cut_front}
use Rattle.ace_grammar.proofs.lines.take_line.Goals as goal

pub returns-in-Ok-NoLf-clause-front : goal.returns-in-Ok-NoLf-clause-front
returns-in-Ok-NoLf-clause-front g c = cut_front _ _ _ _ _ c.in-Ok-NoLf.ensures.line
