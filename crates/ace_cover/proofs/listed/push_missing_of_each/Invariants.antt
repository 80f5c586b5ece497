use Rattle.std.proofs.Common.{◌≡◌, ◌++◌, drop, flat_map}
use Rattle.ace_cover.specs.GroupViews.{views_of}
use Rattle.ace_cover.specs.Tables.{missing_of}
use Rattle.ace_cover.proofs.listed.push_missing_of_each.Given as goal

-- what was added, and the other groups
abbrev pub invariant-loop-group : goal.invariant-loop-group
invariant-loop-group l =
    l.text.items ++ flat_map (missing_of l.every) (views_of (drop l.group-index l.groups))
    ≡ l.initial.text.items ++ flat_map (missing_of l.every) (views_of l.groups)
