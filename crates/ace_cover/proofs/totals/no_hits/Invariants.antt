use Rattle.std.proofs.Common.{◌≡◌, ℕ, map, take}
use Rattle.ace_cover.proofs.totals.no_hits.Given as goal

-- a 0 for each point so far
abbrev pub invariant-loop-point : goal.invariant-loop-point
invariant-loop-point l = record { so_far : l.hits.items ≡ map {B = ℕ} (λ _. 0) (take l._point-index l.points) }
