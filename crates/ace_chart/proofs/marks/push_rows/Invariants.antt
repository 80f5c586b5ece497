use Rattle.std.proofs.Common.{◌≡◌, ◌++◌, drop}
use Rattle.ace_chart.specs.Marks.{rows_text}
use Rattle.ace_chart.proofs.marks.push_rows.Given as goal

-- the rows so far, and the others
abbrev pub invariant-loop-row : goal.invariant-loop-row
invariant-loop-row l =
    l.text.items ++ rows_text l.ports l.stop l.row (drop l.row l.rows)
    ≡ l.initial.text.items ++ rows_text l.ports l.stop 0 l.rows
