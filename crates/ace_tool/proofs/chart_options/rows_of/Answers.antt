use Rattle.std.proofs.Common.{option_map, subst}
use Rattle.ace_tool.specs.ChartOptions.{AreRows}
use Rattle.ace_tool.proofs.chart_options.rows_of.Goals as goal

pub returns-in-None-limit_of-clause-value : goal.returns-in-None-limit_of-clause-value
returns-in-None-limit_of-clause-value c = λ rows are.
    c.in-None-limit_of.ensures.value rows (subst (λ word. AreRows (option_map (λ w. w.now) word) rows) c.in-Some.is are)
