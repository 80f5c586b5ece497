use Rattle.std.proofs.Common.{◌≡◌, take}
use Rattle.ace_cover.specs.Groups.{never_hit}
use Rattle.ace_cover.proofs.hit.never_hit.Given as goal

-- those so far
abbrev pub invariant-loop-hit : goal.invariant-loop-hit
invariant-loop-hit l = l.missing.items ≡ never_hit (take l.hit-index l.hits)
