use Rattle.std.proofs.Common.{◌≡◌, ◌+◌, ◌≤◌, drop, length}
use Rattle.ace_batch.specs.Shards.{part_from, part_of}
use Rattle.ace_batch.proofs.json.count_in.Given as goal

-- those so far, and the others of the part
abbrev pub invariant-loop-place : goal.invariant-loop-place
invariant-loop-place l = record {
  counted : l.count + length (part_from l.shard.part l.shard.parts l.place (drop l.place l.entries))
      ≡ length (part_of l.shard.part l.shard.parts l.entries);
  few : l.count ≤ l.place;
}
