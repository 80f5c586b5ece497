use Rattle.std.proofs.Common.{sym, ◌∙◌}
use Rattle.ace_check.proofs.Terms.{ar_kind_of, is_line_read}
use Rattle.ace_model.proofs.General.Options.{option_filter-is}
use Rattle.ace_check.proofs.shares.Shares.rule_of_ar.Goals as goal

pub returns-in_default : goal.returns-in_default
returns-in_default c = λ h past s. c.err.ensures.value ∙ c.judged_lineless_ar-judged.ensures.least h past s (sym c.line_read_kind.ensures ∙ c.in_default.is)

pub returns : goal.returns
returns c = λ h past s.
    let a = c.args in
    let codes = option_filter-is is_line_read (ar_kind_of a.snoop a.dom a.bar) c.in-Some.kind (sym c.line_read_kind.ensures ∙ c.in-Some.is) in
    c.rule_of_line_ar.ensures h past a.snoop a.dom a.bar s c.place-place.ensures codes.0 codes.1
