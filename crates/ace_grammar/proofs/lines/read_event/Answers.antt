use Rattle.std.proofs.Common.{arith, refl}
use Rattle.ace_io.specs.Reader.{line_at}
use Rattle.ace_grammar.proofs.FirstLines.Cut.{cut_line_is_bad}
use Rattle.ace_grammar.proofs.lines.read_event.Goals as goal

pub returns-then-count-most-clause-next : goal.returns-then-count-most-clause-next
returns-then-count-most-clause-next g c =
    rw c.if-count-most.true (c.read_end.ensures.next c.args.most c.args.version c.args.event.now)

pub returns-then-count-most-clause-last : goal.returns-then-count-most-clause-last
returns-then-count-most-clause-last g c = c.read_end.ensures.last c.args.event.now

pub returns-then-count-most-clause-cause : goal.returns-then-count-most-clause-cause
returns-then-count-most-clause-cause g c = c.read_end.ensures.cause c.args.event.now

pub returns-in-Ok-NoLf-default-clause-next : goal.returns-in-Ok-NoLf-default-clause-next
returns-in-Ok-NoLf-default-clause-next g c =
    let cut = rw c.in-Ok-NoLf-default.field-0-0-is at c.in-Ok-NoLf-default.ensures.line in
    let line = line_at c.next_in_place.new.self c.in-Ok-NoLf-default.field-0-1 c.next_in_place.new.copy in
    rw c.meet_malformed-in-Ok-NoLf-default.ensures (omega arith, refl, cut_line_is_bad _ _ _ line c.in-Ok-NoLf-default.ensures.no_lf cut.0 cut.2 cut.3)
