use Rattle.ace_tool.proofs.ChartSelections.{range_goal}
use Rattle.ace_tool.proofs.chart_selected.range_of.Goals as goal

pub returns-in-Some-behind_point : goal.returns-in-Some-behind_point
returns-in-Some-behind_point c =
    range_goal c.args.front.now c.args.back.now c.in-Some.first c.in-Some-behind_point.last c.in_order.result c.in-Some.ensures c.in-Some-behind_point.ensures
    c.in_order.ensures
