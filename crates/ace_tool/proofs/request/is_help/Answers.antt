use Rattle.std.proofs.Common.{rules, codes, bytes_eq, ap, ◌∙◌}
use Rattle.ace_tool.proofs.Words.{is_only_word}
use Rattle.ace_tool.proofs.request.is_help.Goals as goal

pub returns-then-is_empty : goal.returns-then-is_empty
returns-then-is_empty c =
    is_only_word c.args.words.now c.in-Some.word.now c.in-Some.rest.now (codes "--help") c.eq.result (search rules) (search rules)
    (c.eq.ensures ∙ ap (λ word. bytes_eq word (codes "--help")) c.as_str.ensures.value)
