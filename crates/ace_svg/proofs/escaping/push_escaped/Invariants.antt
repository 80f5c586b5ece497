use Rattle.std.proofs.Common.{◌≡◌, ◌++◌, flat_map, drop}
use Rattle.ace_svg.specs.Escaping.{escaped, escaped_byte}
use Rattle.ace_svg.proofs.escaping.push_escaped.Given as goal

-- the bytes so far, and those of the other words
abbrev pub invariant-loop-byte : goal.invariant-loop-byte
invariant-loop-byte l =
    l.text.items ++ flat_map escaped_byte (drop l.byte-index l.words) ≡ l.initial.text.items ++ escaped l.words
