use Rattle.std.proofs.Common.{◌≡◌, ◌++◌, flat_map, drop}
use Rattle.ace_batch.specs.Escapes.{json_byte}
use Rattle.ace_batch.proofs.escape.push_json.Given as goal

-- what was added, and the other bytes
abbrev pub invariant-loop-byte : goal.invariant-loop-byte
invariant-loop-byte l =
    l.text.items ++ flat_map json_byte (drop l.byte-index l.given)
    ≡ l.initial.text.items ++ flat_map json_byte l.given
