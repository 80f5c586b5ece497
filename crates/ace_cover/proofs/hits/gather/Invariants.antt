use Rattle.std.proofs.Common.{◌≡◌, ◌≤◌, ◌+◌, ◌||◌, length, take}
use Rattle.ace_cover.specs.Counts.{has_point}
use Rattle.ace_points.specs.declared.point.Point.{Point}
use Rattle.ace_cover.proofs.hits.gather.Given as goal

-- the points so far were added
abbrev pub invariant-loop-point : goal.invariant-loop-point
invariant-loop-point l = record {
  among : (p : Point) → has_point (take l.count l.found) p
      ≡ (has_point (take l.initial.count l.initial.found) p || has_point (take l.point-index l.shown) p);
  few : l.count ≤ l.initial.count + l.point-index;
  size : length l.found ≡ length l.initial.found;
}
