use Rattle.std.proofs.Common.{◌≡◌, map, take}
use Rattle.ace_batch.specs.Junit.{dotted}
use Rattle.ace_batch.proofs.junit.dotted.Given as goal

-- the bytes so far
abbrev pub invariant-loop-byte : goal.invariant-loop-byte
invariant-loop-byte l = l.dots.items ≡ map dotted (take l.byte-index l.folder)
