use Rattle.std.proofs.Common.{◌≡◌, take}
use Rattle.ace_cover.specs.Groups.{were_hit}
use Rattle.ace_cover.proofs.hit.were_hit.Given as goal

-- those so far
abbrev pub invariant-loop-hit : goal.invariant-loop-hit
invariant-loop-hit l = l.found.items ≡ were_hit (take l.hit-index l.hits)
