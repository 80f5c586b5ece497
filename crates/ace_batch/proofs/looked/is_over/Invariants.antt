use Rattle.std.proofs.Common.{◌≡◌, false, take}
use Rattle.std.specs.List.{list_any}
use Rattle.ace_batch.specs.Looked.{ends_with}
use Rattle.ace_batch.proofs.looked.is_over.Given as goal

-- it ends with none so far
abbrev pub invariant-loop-entry : goal.invariant-loop-entry
invariant-loop-entry l = list_any (ends_with l.fail_fast) (take l.entry-index l.entries) ≡ false
