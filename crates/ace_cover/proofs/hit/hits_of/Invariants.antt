use Rattle.std.proofs.Common.{◌≡◌, ◌++◌, drop}
use Rattle.ace_cover.specs.Groups.{hits_of}
use Rattle.ace_cover.proofs.hit.hits_of.Given as goal

-- the points so far, and the others
abbrev pub invariant-loop-place : goal.invariant-loop-place
invariant-loop-place l =
    l.hits.items ++ hits_of (drop l.place l.points) (drop l.place l.counts) ≡ hits_of l.points l.counts
