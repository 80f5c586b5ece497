use Rattle.std.proofs.Common.{◌≡◌, drop}
use Rattle.ace_batch.specs.Counts.{first_of, order}
use Rattle.ace_batch.proofs.counting.first_of.Given as goal

-- none of the statuses so far occurs
abbrev pub invariant-loop-status : goal.invariant-loop-status
invariant-loop-status l = first_of (drop l.status-index order) l.entries ≡ first_of order l.entries
