use Rattle.ace_tool.proofs.picture.picture_with.Goals as goal

pub returns-in-Ok-clause-right : goal.returns-in-Ok-clause-right
returns-in-Ok-clause-right c holds bytes drawn is =
    (c.args.chart.now, c.args.explanation.now, c.args.side, drawn, is, rw c.as_ref-facts.ensures.value at c.in-Ok.ensures)
