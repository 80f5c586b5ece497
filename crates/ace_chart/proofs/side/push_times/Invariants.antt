use Rattle.std.proofs.Common.{◌≡◌, ◌++◌, drop}
use Rattle.ace_chart.specs.Side.{times_text}
use Rattle.ace_chart.proofs.side.push_times.Given as goal

-- the times so far, and the others
abbrev pub invariant-loop-row : goal.invariant-loop-row
invariant-loop-row l =
    l.text.items ++ times_text l.row (drop l.row l.times) ≡ l.initial.text.items ++ times_text 0 l.times
