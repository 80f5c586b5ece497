use Rattle.std.proofs.Common.{◌≡◌, ◌++◌, drop}
use Rattle.ace_batch.specs.Escapes.{xml_from}
use Rattle.ace_batch.proofs.escape.push_xml.Given as goal

-- what was added, and the other bytes
abbrev pub invariant-loop-byte : goal.invariant-loop-byte
invariant-loop-byte l =
    l.text.items ++ xml_from l.lines l.second l.first (drop l.byte-index l.given)
    ≡ l.initial.text.items ++ xml_from l.lines 0 0 l.given
