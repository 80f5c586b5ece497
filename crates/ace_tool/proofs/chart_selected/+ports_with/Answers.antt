use Rattle.std.proofs.Common.{arith}
use Rattle.ace_tool.proofs.ChartSelections.{cut_goal, cut_none, uncut_goal}
use Rattle.ace_tool.proofs.chart_selected.+ports_with.Goals as goal

pub returns-in-Some-with_port : goal.returns-in-Some-with_port
returns-in-Some-with_port t c =
    let at = c.in-Some.ensures.byte (omega arith) (λ w o found. found) in
    cut_goal c.args.word.now c.in-Some.first.now c.in-Some.others.now c.args.so_far c.in-Some-with_port.ports c.ports_with.result
    at.0 at.1 at.2 c.in-Some-with_port.ensures c.ports_with.ensures

pub returns-in-None-with_port : goal.returns-in-None-with_port
returns-in-None-with_port t c =
    let at = c.in-Some.ensures.byte (omega arith) (λ w o found. found) in
    cut_none c.args.word.now c.in-Some.first.now c.in-Some.others.now c.args.so_far at.0 at.1 at.2 c.in-None-with_port.ensures

pub returns-in-None : goal.returns-in-None
returns-in-None t c =
    uncut_goal c.args.word.now c.args.so_far c.with_port-in-None.result (c.in-None.ensures.byte (omega arith) (λ w o found. found))
    c.with_port-in-None.ensures
