use Rattle.std.proofs.Common.{◌≡◌, [], fold, map, take}
use Rattle.ace_batch.specs.GroupViews.{entries_of, views_of}
use Rattle.ace_batch.specs.Groups.{group_of, with_group}
use Rattle.ace_batch.proofs.grouping.groups_of.Given as goal

-- those so far
abbrev pub invariant-loop-kind : goal.invariant-loop-kind
invariant-loop-kind l =
    views_of l.groups.items
    ≡ fold with_group [] (map (group_of l.entries) (entries_of (take l.kind-index l.kind-items)))
