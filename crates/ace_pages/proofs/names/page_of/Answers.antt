use Rattle.std.proofs.Common.{sym, ◌∙◌, arith}
use Rattle.ace_pages.proofs.Steps.{page_end}
use Rattle.ace_pages.proofs.names.page_of.Goals as goal

-- no rule is left
pub returns : goal.returns
returns c =
    sym (page_end c.args.word.now c.loop-rule.rule (omega (arith, c.loop-rule-test.false)))
    ∙ c.loop-rule.invariant.page
