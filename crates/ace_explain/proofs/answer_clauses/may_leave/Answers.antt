use Rattle.std.proofs.Common.{sym, ◌∙◌}
use Rattle.ace_explain.proofs.RowLetters.{second-tells}
use Rattle.ace_explain.proofs.answer_clauses.may_leave.Goals as goal

pub returns-else-is_row : goal.returns-else-is_row
returns-else-is_row c = λ r p l is hit.
    c.is_row-else-is_row.ensures r p l is
    ∙ second-tells _ _ _ _ _ c.response_to-clean.ensures c.response_to-dirty.ensures hit (sym (c.is_row.ensures r p l is) ∙ c.if-is_row.false)
