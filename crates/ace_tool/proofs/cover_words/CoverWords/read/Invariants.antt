use Rattle.std.proofs.Common.{◌≡◌, Some, map, string_bytes, drop}
use Rattle.ace_tool.specs.CoverAsked.{nothing_of_cover, with_cover_all}
use Rattle.ace_tool.proofs.cover_words.CoverWords.read.Given as goal

-- the words so far ask this, and the others follow
abbrev pub invariant-loop-word : goal.invariant-loop-word
invariant-loop-word l = with_cover_all (Some nothing_of_cover) (map string_bytes l.words)
    ≡ with_cover_all (Some l.asked) (map string_bytes (drop l.word-index l.words))
