use Rattle.std.proofs.Common.{◌≡◌, ◌++◌, map, take, drop}
use Rattle.ace_cache.specs.Ways.{marked}
use Rattle.ace_cache.proofs.ways.mark_at.Given as goal

-- the Ways so far are marked, and the others are as they were
abbrev pub invariant-loop-way : goal.invariant-loop-way
invariant-loop-way l =
    l.ways ≡ map (marked l.addr l.st l.busy) (take l.way-index l.initial.ways) ++ drop l.way-index l.initial.ways
