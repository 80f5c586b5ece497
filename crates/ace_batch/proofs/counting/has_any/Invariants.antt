use Rattle.std.proofs.Common.{◌≡◌, false, take}
use Rattle.std.specs.List.{list_any}
use Rattle.ace_batch.specs.Counts.{has_status}
use Rattle.ace_batch.proofs.counting.has_any.Given as goal

-- none so far has it
abbrev pub invariant-loop-entry : goal.invariant-loop-entry
invariant-loop-entry l = list_any (has_status l.status) (take l.entry-index l.entries) ≡ false
