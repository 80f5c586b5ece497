use Rattle.std.proofs.Common.{◌≡◌, map, string_bytes, take}
use Rattle.ace_parts.specs.Merging.{texts_of}
use Rattle.ace_tool.proofs.merging.bytes_of.Given as goal

-- those so far
abbrev pub invariant-loop-text : goal.invariant-loop-text
invariant-loop-text l = texts_of l.all.items ≡ map string_bytes (take l.text-index l.texts)
