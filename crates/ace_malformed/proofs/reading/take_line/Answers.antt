use Rattle.ace_grammar.proofs.FirstLines.Cut.{cut_line_is_none, no_line_at_end}
use Rattle.ace_grammar.proofs.Readings.Taken.{cut_front}
use Rattle.ace_malformed.proofs.reading.take_line.Goals as goal

pub returns-in-Ok-NoLf-clause-none : goal.returns-in-Ok-NoLf-clause-none
returns-in-Ok-NoLf-clause-none g c same =
    let cut = rw c.in-Ok-NoLf.field-0-is at c.in-Ok-NoLf.ensures.line in
    cut_line_is_none _ _ _ c.next.ensures.no_lf cut.2 cut.3

pub returns-in-Ok-NoLf-clause-front : goal.returns-in-Ok-NoLf-clause-front
returns-in-Ok-NoLf-clause-front g c = cut_front _ _ _ _ _ c.in-Ok-NoLf.ensures.line

pub returns-in-Ok-End-clause-none : goal.returns-in-Ok-End-clause-none
returns-in-Ok-End-clause-none g c same =
    let cut = rw c.in-Ok-End.field-0-is at c.in-Ok-End.ensures.line in
    no_line_at_end _ _ _ cut.0 cut.1 cut.2

pub returns-in-Ok-End-clause-front : goal.returns-in-Ok-End-clause-front
returns-in-Ok-End-clause-front g c = cut_front _ _ _ _ _ c.in-Ok-End.ensures.line
