use Rattle.std.proofs.Common.{◌≡◌, ◌++◌, drop, flat_map}
use Rattle.ace_batch.specs.GroupViews.{views_of}
use Rattle.ace_batch.specs.Summaries.{group_text}
use Rattle.ace_batch.proofs.summary.push_each.Given as goal

-- what was added, and the texts of the other groups
abbrev pub invariant-loop-group : goal.invariant-loop-group
invariant-loop-group l =
    l.text.items ++ flat_map group_text (views_of (drop l.group-index l.groups))
    ≡ l.initial.text.items ++ flat_map group_text (views_of l.groups)
