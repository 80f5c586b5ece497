use Rattle.std.proofs.Common.{◌≡◌, [], map, string_bytes, drop}
use Rattle.ace_pages.specs.Told.{told_onto}
use Rattle.ace_pages.proofs.told.named_pages.Given as goal

-- the pages so far, and those of the other words
abbrev pub invariant-loop-word : goal.invariant-loop-word
invariant-loop-word l =
    told_onto l.text.items (map string_bytes (drop l.word-index l.words))
    ≡ told_onto [] (map string_bytes l.words)
