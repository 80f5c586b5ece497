use Rattle.std.proofs.Common.{◌≡◌, [], fold, take}
use Rattle.ace_batch.specs.GroupViews.{entries_of}
use Rattle.ace_batch.specs.Groups.{with_kind}
use Rattle.ace_batch.proofs.grouping.kinds_of.Given as goal

-- those of the traces so far
abbrev pub invariant-loop-entry : goal.invariant-loop-entry
invariant-loop-entry l =
    entries_of l.kinds.items ≡ fold with_kind [] (take l.entry-index l.entries)
