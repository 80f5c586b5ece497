use Rattle.std.proofs.Common.{◌≡◌, ◌≤◌, ◌-◌, ◌++◌, drop, take, length}
use Rattle.ace_batch.specs.GroupViews.{view_of, views_of}
use Rattle.ace_batch.specs.Groups.{with_group}
use Rattle.ace_batch.proofs.grouping.add_group.Given as goal

-- none so far has fewer
abbrev pub invariant-loop-place : goal.invariant-loop-place
invariant-loop-place l = record {
  within : l.place ≤ length l.groups.items;
  placed : views_of (take l.place l.groups.items) ++ with_group (views_of (drop l.place l.groups.items)) (view_of l.group)
      ≡ with_group (views_of l.groups.items) (view_of l.group);
}

abbrev pub decreases-loop-place : goal.decreases-loop-place
decreases-loop-place l = length l.groups.items - l.place
