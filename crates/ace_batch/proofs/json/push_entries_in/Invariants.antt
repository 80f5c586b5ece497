use Rattle.std.proofs.Common.{◌≡◌, ◌++◌, drop, flat_map}
use Rattle.ace_batch.specs.Json.{entry_json}
use Rattle.ace_batch.specs.Shards.{part_from, part_of}
use Rattle.ace_batch.proofs.json.push_entries_in.Given as goal

-- the lines so far, and those of the others of the part
abbrev pub invariant-loop-place : goal.invariant-loop-place
invariant-loop-place l =
    l.text.items ++ flat_map entry_json (part_from l.shard.part l.shard.parts l.place (drop l.place l.entries))
    ≡ l.initial.text.items ++ flat_map entry_json (part_of l.shard.part l.shard.parts l.entries)
