use Rattle.std.proofs.Common.{◌≡◌, ◌≤◌, take}
use Rattle.ace_batch.specs.Counts.{open_count}
use Rattle.ace_batch.proofs.counting.open_count.Given as goal

-- those so far
abbrev pub invariant-loop-entry : goal.invariant-loop-entry
invariant-loop-entry l = record {
  counted : l.count ≡ open_count (take l.entry-index l.entries);
  few : l.count ≤ l.entry-index;
}
