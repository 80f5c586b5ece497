use Rattle.std.proofs.Common.{◌≡◌, drop, map, string_bytes}
use Rattle.std.specs.List.{list_any}
use Rattle.ace_tool.specs.Asked.{has_hyphen}
use Rattle.ace_tool.proofs.merging.are_names.Given as goal

-- whether one of the others begins with `-`
abbrev pub invariant-loop-word : goal.invariant-loop-word
invariant-loop-word l =
    list_any has_hyphen (map string_bytes (drop l.word-index l.words)) ≡ list_any has_hyphen (map string_bytes l.words)
