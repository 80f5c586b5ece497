use Rattle.std.proofs.Common.{◌≡◌, ◌≤◌, take}
use Rattle.ace_cover.specs.Groups.{hit_count}
use Rattle.ace_cover.proofs.hit.hit_count.Given as goal

-- those so far
abbrev pub invariant-loop-hit : goal.invariant-loop-hit
invariant-loop-hit l = record {
  counted : l.count ≡ hit_count (take l.hit-index l.hits);
  few : l.count ≤ l.hit-index;
}
