use Rattle.std.proofs.Common.{◌≡◌, ◌≤◌, count_by, take}
use Rattle.ace_batch.specs.Groups.{is_like}
use Rattle.ace_batch.proofs.grouping.count_like.Given as goal

-- those so far
abbrev pub invariant-loop-other : goal.invariant-loop-other
invariant-loop-other l = record {
  counted : l.count ≡ count_by (is_like l.entry) (take l.other-index l.entries);
  few : l.count ≤ l.other-index;
}
