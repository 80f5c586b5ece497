use Rattle.ace_tool.proofs.chart_selected.around_said.Goals as goal

pub returns-in-None : goal.returns-in-None
returns-in-None c = λ first last is. c.in-None.ensures.value is.0 is.1
