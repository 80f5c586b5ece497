use Rattle.std.proofs.Common.{◌≡◌, ◌++◌, drop, flat_map}
use Rattle.ace_batch.specs.Rows.{shown_row}
use Rattle.ace_batch.proofs.row.push_each.Given as goal

-- what was added, and the lines of the other traces
abbrev pub invariant-loop-entry : goal.invariant-loop-entry
invariant-loop-entry l =
    l.text.items ++ flat_map (shown_row l.failed l.width) (drop l.entry-index l.entries)
    ≡ l.initial.text.items ++ flat_map (shown_row l.failed l.width) l.entries
