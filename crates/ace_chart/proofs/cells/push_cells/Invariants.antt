use Rattle.std.proofs.Common.{◌≡◌, ◌++◌, drop}
use Rattle.ace_chart.specs.Cells.{rows_cells}
use Rattle.ace_chart.proofs.cells.push_cells.Given as goal

-- the rows so far, and the others
abbrev pub invariant-loop-row : goal.invariant-loop-row
invariant-loop-row l =
    l.text.items ++ rows_cells l.ports l.row (drop l.row l.rows) ≡ l.initial.text.items ++ rows_cells l.ports 0 l.rows
