use Rattle.ace_tool.proofs.chart_texts.tell_packed_to_draw.Goals as goal

pub returns-clause-part : goal.returns-clause-part
returns-clause-part g c = rw (c.told_name.ensures, c.advice_of.ensures, c.shown_name.ensures) at c.give_five.ensures.part
