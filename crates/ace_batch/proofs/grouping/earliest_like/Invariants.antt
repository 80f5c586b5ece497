use Rattle.std.proofs.Common.{◌≡◌, fold, take}
use Rattle.ace_batch.specs.Groups.{earlier_like}
use Rattle.ace_batch.proofs.grouping.earliest_like.Given as goal

-- the best of those so far
abbrev pub invariant-loop-other : goal.invariant-loop-other
invariant-loop-other l =
    l.best ≡ fold (earlier_like l.entry) l.entry (take l.other-index l.entries)
