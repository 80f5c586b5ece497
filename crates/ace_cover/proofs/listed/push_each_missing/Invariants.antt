use Rattle.std.proofs.Common.{◌≡◌, ◌++◌, drop, flat_map}
use Rattle.ace_cover.specs.Tables.{missing_line}
use Rattle.ace_cover.proofs.listed.push_each_missing.Given as goal

-- what was added, and the other points
abbrev pub invariant-loop-hit : goal.invariant-loop-hit
invariant-loop-hit l =
    l.text.items ++ flat_map missing_line (drop l.hit-index l.missing)
    ≡ l.initial.text.items ++ flat_map missing_line l.missing
