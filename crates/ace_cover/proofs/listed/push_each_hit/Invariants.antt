use Rattle.std.proofs.Common.{◌≡◌, ◌++◌, drop, flat_map}
use Rattle.ace_cover.specs.Tables.{hit_line}
use Rattle.ace_cover.proofs.listed.push_each_hit.Given as goal

-- what was added, and the other points
abbrev pub invariant-loop-hit : goal.invariant-loop-hit
invariant-loop-hit l =
    l.text.items ++ flat_map hit_line (drop l.hit-index l.hits)
    ≡ l.initial.text.items ++ flat_map hit_line l.hits
