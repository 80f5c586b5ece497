use Rattle.std.proofs.Common.{◌≡◌, Some, map, string_bytes, drop}
use Rattle.ace_tool.specs.ChartAsked.{nothing_to_draw, with_drawn_all}
use Rattle.ace_tool.proofs.chart_words.ChartWords.read.Given as goal

-- the words so far ask this, and the others follow
abbrev pub invariant-loop-word : goal.invariant-loop-word
invariant-loop-word l = with_drawn_all (Some nothing_to_draw) (map string_bytes l.words)
    ≡ with_drawn_all (Some l.asked) (map string_bytes (drop l.word-index l.words))
