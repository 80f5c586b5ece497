use Rattle.std.proofs.Common.{arith, refl}
use Rattle.ace_grammar.proofs.FirstLines.Cut.{cut_line_is_bad}
use Rattle.ace_malformed.proofs.reading.next_event.Goals as goal

pub returns-then-count-most-clause-cut : goal.returns-then-count-most-clause-cut
returns-then-count-most-clause-cut g c = c.read_end.ensures.cut _

pub returns-in-Ok-NoLf-clause-next : goal.returns-in-Ok-NoLf-clause-next
returns-in-Ok-NoLf-clause-next g c =
    let cut = rw c.in-Ok-NoLf.field-0-is at c.in-Ok-NoLf.ensures.line in
    rw c.malformed-in-Ok-NoLf.ensures (omega arith, refl, cut_line_is_bad _ _ _ _ c.next.ensures.no_lf cut.0 cut.2 cut.3)
