use Rattle.std.proofs.Common.{◌≡◌, Some, map, string_bytes, drop}
use Rattle.ace_tool.specs.Asked.{nothing, with_all}
use Rattle.ace_tool.proofs.check_words.CheckWords.read.Given as goal

-- the words so far ask this, and the others follow
abbrev pub invariant-loop-word : goal.invariant-loop-word
invariant-loop-word l = with_all (Some nothing) (map string_bytes l.words)
    ≡ with_all (Some l.asked) (map string_bytes (drop l.word-index l.words))
