use Rattle.ace_tool.proofs.chart_selected.span_said.Goals as goal

pub returns-in-Some-None : goal.returns-in-Some-None
returns-in-Some-None c = rw (c.in-Some-None.is-0, c.in-Some-None.is-1) c.around_said.ensures
