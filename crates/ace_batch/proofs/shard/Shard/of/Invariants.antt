use Rattle.std.proofs.Common.{◌≡◌, ◌++◌, drop}
use Rattle.ace_batch.specs.Shards.{part_from, part_of}
use Rattle.ace_batch.proofs.shard.Shard.of.Given as goal

-- the elements so far, and the others of the part
abbrev pub invariant-loop-place : goal.invariant-loop-place
invariant-loop-place l =
    l.some.items ++ part_from l.self.part l.self.parts l.place (drop l.place l.list)
    ≡ part_of l.self.part l.self.parts l.list
