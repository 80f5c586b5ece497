use Rattle.ace_side_facts.proofs.Lines.{all_read}
use Rattle.ace_side_facts.proofs.reading.read_lines.Goals as goal

pub returns-in-Ok-finish-clause-facts : goal.returns-in-Ok-finish-clause-facts
returns-in-Ok-finish-clause-facts g c first read =
    let ends = rw c.in-Ok-None.field-0-is at c.in-Ok-None.ensures in
    all_read _ first _ _ c.next.new.self c.lines.gathered _ c.in-Ok-finish.facts (c.lines.invariant.come first read)
    (λ past come. ends.reads c.lines.invariant.reads_on first past come)
    (λ past come. c.ending-end.ensures first past come) c.in-Ok-finish.ensures
