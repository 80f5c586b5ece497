use Rattle.std.proofs.Common.{◌≡◌, ◌≤◌, take}
use Rattle.ace_batch.specs.Counts.{count_of}
use Rattle.ace_batch.proofs.counting.count_of.Given as goal

-- those so far
abbrev pub invariant-loop-entry : goal.invariant-loop-entry
invariant-loop-entry l = record {
  counted : l.count ≡ count_of l.status (take l.entry-index l.entries);
  few : l.count ≤ l.entry-index;
}
