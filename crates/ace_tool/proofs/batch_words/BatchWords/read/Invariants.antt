use Rattle.std.proofs.Common.{◌≡◌, Some, map, string_bytes, drop}
use Rattle.ace_tool.specs.BatchAsked.{nothing_of_batch, with_batch_all}
use Rattle.ace_tool.proofs.batch_words.BatchWords.read.Given as goal

-- the words so far ask this, and the others follow
abbrev pub invariant-loop-word : goal.invariant-loop-word
invariant-loop-word l = with_batch_all (Some nothing_of_batch) (map string_bytes l.words)
    ≡ with_batch_all (Some l.asked) (map string_bytes (drop l.word-index l.words))
