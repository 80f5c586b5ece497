use Rattle.std.proofs.Common.{◌≡◌, Some, map, string_bytes, drop}
use Rattle.ace_tool.specs.ExplainAsked.{explain_with_all, nothing_to_explain}
use Rattle.ace_tool.proofs.explain_words.ExplainWords.read.Given as goal

-- the words so far ask this, and the others follow
abbrev pub invariant-loop-word : goal.invariant-loop-word
invariant-loop-word l = explain_with_all (Some nothing_to_explain) (map string_bytes l.words)
    ≡ explain_with_all (Some l.asked) (map string_bytes (drop l.word-index l.words))
