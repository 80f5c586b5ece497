use Rattle.std.proofs.Common.{sym, ◌∙◌}
use Rattle.ace_check.proofs.shares.Shares.rule_of_aw.Goals as goal

pub returns-in_default : goal.returns-in_default
returns-in_default c = λ h past s. c.err.ensures.value ∙ c.judged_lineless_aw-judged.ensures.least h past s (sym c.line_write_kind.ensures ∙ c.in_default.is)

pub returns : goal.returns
returns c = λ h past s.
    let a = c.args in
    c.rule_of_line_aw.ensures h past a.snoop a.dom a.bar s c.place-place.ensures (sym c.line_write_kind.ensures ∙ c.in-Some.is)
