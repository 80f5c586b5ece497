use Rattle.std.proofs.Common.{◌≡◌, map, take}
use Rattle.ace_chart.specs.Charts.{last_of}
use Rattle.ace_chart.proofs.chart.row_numbers.Given as goal

-- those of the rows so far
abbrev pub invariant-loop-row : goal.invariant-loop-row
invariant-loop-row l = l.numbers.items ≡ map last_of (take l.row-index l.chart.rows.items)
