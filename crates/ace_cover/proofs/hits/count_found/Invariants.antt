use Rattle.std.proofs.Common.{◌≡◌, ◌≤◌, ◌<◌, ◌+◌, ◌-◌, ◌^◌, ℕ, if◌then◌else◌, length, map}
use Rattle.ace_cover.proofs.Counting.{so_far}
use Rattle.ace_cover.specs.Counts.{has_point}
use Rattle.ace_points.specs.declared.point.Point.{Point}
use Rattle.ace_cover.proofs.hits.count_found.Given as goal

-- the counts of the first places are new
abbrev pub invariant-loop-place : goal.invariant-loop-place
invariant-loop-place l = record {
  few : l.place ≤ length l.points;
  so_far : (before after : Point → ℕ) → l.initial.hits.items ≡ map before l.points → ((p : Point) → before p < 2 ^ 64 - 1)
      → ((p : Point) → after p ≡ (if has_point l.found p then before p + 1 else before p)) → l.hits.items ≡ so_far before after l.points l.place;
}
