use Rattle.std.proofs.Common.{refl}
use Rattle.ace_grammar.proofs.Readings.Taken.{cut_end}
use Rattle.ace_side.proofs.BadLines.{cut_line_is_bad}
use Rattle.ace_side.proofs.lines.read_next.Goals as goal

pub returns-in-Ok-NoLf-clause-next : goal.returns-in-Ok-NoLf-clause-next
returns-in-Ok-NoLf-clause-next g c = λ past stands.
    let cut = rw c.in-Ok-NoLf.field-0-is at c.in-Ok-NoLf.ensures.line in
    (refl, cut_line_is_bad past _ _ c.next.new.into c.next.ensures.no_lf cut.0 cut.2 cut.3)

pub returns-in-Ok-End-clause-next : goal.returns-in-Ok-End-clause-next
returns-in-Ok-End-clause-next g c = λ past stands. cut_end _ _ _ _ (rw c.in-Ok-End.field-0-is at c.in-Ok-End.ensures.line)
