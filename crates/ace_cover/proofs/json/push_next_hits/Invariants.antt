use Rattle.std.proofs.Common.{◌≡◌, ◌++◌, drop, flat_map, map}
use Rattle.ace_cover.specs.Json.{behind_comma, hit_json}
use Rattle.ace_cover.proofs.json.push_next_hits.Given as goal

-- what was added, and the other points
abbrev pub invariant-loop-hit : goal.invariant-loop-hit
invariant-loop-hit l =
    l.text.items ++ flat_map behind_comma (map hit_json (drop l.hit-index l.hits))
    ≡ l.initial.text.items ++ flat_map behind_comma (map hit_json l.hits)
