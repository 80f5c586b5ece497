use Rattle.std.proofs.Common.{refl, ◌∙◌}
use Rattle.ace_chart_rows.proofs.collect.part_at.Goals as goal

pub returns : goal.returns
returns c most h past b s =
    c.part_of.ensures ∙ rw (c.is_asked-asked.ensures, c.next_line.ensures most h past b s, c.next_number.ensures most h past b s) refl
