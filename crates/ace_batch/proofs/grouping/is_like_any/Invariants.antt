use Rattle.std.proofs.Common.{◌≡◌, false, take}
use Rattle.std.specs.List.{list_any}
use Rattle.ace_batch.specs.GroupViews.{entries_of}
use Rattle.ace_batch.specs.Groups.{is_like}
use Rattle.ace_batch.proofs.grouping.is_like_any.Given as goal

-- none so far is like it
abbrev pub invariant-loop-kind : goal.invariant-loop-kind
invariant-loop-kind l =
    list_any (λ kind. is_like kind l.entry) (entries_of (take l.kind-index l.kinds)) ≡ false
