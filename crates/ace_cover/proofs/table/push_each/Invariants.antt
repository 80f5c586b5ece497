use Rattle.std.proofs.Common.{◌≡◌, ◌++◌, drop, flat_map}
use Rattle.ace_cover.specs.GroupViews.{views_of}
use Rattle.ace_cover.specs.Tables.{row_text}
use Rattle.ace_cover.proofs.table.push_each.Given as goal

-- what was added, and the rows of the other groups
abbrev pub invariant-loop-group : goal.invariant-loop-group
invariant-loop-group l =
    l.text.items ++ flat_map row_text (views_of (drop l.group-index l.groups))
    ≡ l.initial.text.items ++ flat_map row_text (views_of l.groups)
