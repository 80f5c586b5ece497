use Rattle.std.proofs.Common.{◌≡◌, ◌++◌, drop, flat_map, map}
use Rattle.ace_cover.specs.GroupViews.{views_of}
use Rattle.ace_cover.specs.Json.{behind_comma, group_json}
use Rattle.ace_cover.proofs.json.push_next_groups.Given as goal

-- what was added, and the other groups
abbrev pub invariant-loop-group : goal.invariant-loop-group
invariant-loop-group l =
    l.text.items ++ flat_map behind_comma (map group_json (views_of (drop l.group-index l.groups)))
    ≡ l.initial.text.items ++ flat_map behind_comma (map group_json (views_of l.groups))
