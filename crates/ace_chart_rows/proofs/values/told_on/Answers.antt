use Rattle.ace_chart_rows.proofs.Asked.{nothing_of_others, told_of_asked}
use Rattle.ace_chart_rows.proofs.values.told_on.Goals as goal

pub returns-then-is_asked : goal.returns-then-is_asked
returns-then-is_asked c most h past b s =
    told_of_asked h past c.args.line c.next_line.result c.in-Some.of c.args.values.now.kept.items c.args.event.now c.is_asked.result c.told_in.result c.in-Some.is
    c.is_asked.ensures (c.next_line.ensures most h past b s) c.if-is_asked.true (c.told_in.ensures most h past b s)

pub returns-else-is_asked : goal.returns-else-is_asked
returns-else-is_asked c most h past b s =
    nothing_of_others h past c.args.line c.next_line.result c.in-Some.of c.args.values.now.kept.items c.args.event.now c.is_asked.result c.in-Some.is
    c.is_asked.ensures (c.next_line.ensures most h past b s) c.if-is_asked.false
