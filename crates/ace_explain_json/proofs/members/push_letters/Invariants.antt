use Rattle.std.proofs.Common.{◌≡◌, ◌++◌, flat_map, drop}
use Rattle.ace_explain_json.specs.Members.{letter}
use Rattle.ace_explain_json.proofs.members.push_letters.Given as goal

-- what was added, and the other bytes
abbrev pub invariant-loop-byte : goal.invariant-loop-byte
invariant-loop-byte l =
    l.text.items ++ flat_map letter (drop l.byte-index l.column)
    ≡ l.initial.text.items ++ flat_map letter l.column
