use Rattle.std.proofs.Common.{◌≡◌, fold, take}
use Rattle.ace_batch.specs.Rows.{width_with}
use Rattle.ace_batch.proofs.row.row_width.Given as goal

-- the width for the traces so far
abbrev pub invariant-loop-entry : goal.invariant-loop-entry
invariant-loop-entry l = l.width ≡ fold width_with 8 (take l.entry-index l.entries)
