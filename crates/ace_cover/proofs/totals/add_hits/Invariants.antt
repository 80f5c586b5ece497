use Rattle.std.proofs.Common.{◌≡◌, ◌≤◌, length, take}
use Rattle.ace_cover.proofs.totals.add_hits.Given as goal
use Rattle.ace_cover.specs.Counts.{sums}

-- the first places are added
abbrev pub invariant-loop-place : goal.invariant-loop-place
invariant-loop-place l = record {
  few : l.place ≤ length l.hits;
  so_far : l.total.items ≡ sums l.initial.total.items (take l.place l.hits);
}
