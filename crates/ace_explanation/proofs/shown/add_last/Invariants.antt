use Rattle.std.proofs.Common.{◌≡◌, ◌++◌, map, drop}
use Rattle.ace_journal.specs.declared.rows.Row.{Row}
use Rattle.ace_explanation.proofs.shown.add_last.Given as goal

abbrev pub invariant-loop-row : goal.invariant-loop-row
invariant-loop-row l =
    l.events.items ++ map (λ (row : Row). row.last) (drop l.row-index l.rows)
    ≡ l.initial.events.items ++ map (λ (row : Row). row.last) l.rows
