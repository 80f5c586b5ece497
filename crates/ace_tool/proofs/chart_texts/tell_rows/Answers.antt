use Rattle.ace_tool.proofs.chart_texts.tell_rows.Goals as goal

pub returns-clause-part : goal.returns-clause-part
returns-clause-part g c = rw (c.told_name.ensures, c.format.ensures.text) at c.give_five.ensures.part
