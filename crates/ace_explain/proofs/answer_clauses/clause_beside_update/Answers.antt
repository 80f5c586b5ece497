use Rattle.std.proofs.Common.{sym, ◌∙◌}
use Rattle.ace_explain.proofs.AnswerLetters.{waiting_snoop, passed_beside, given_up_beside}
use Rattle.ace_explain.proofs.answer_clauses.clause_beside_update.Goals as goal

pub returns-then-not-goes_with_update : goal.returns-then-not-goes_with_update
returns-then-not-goes_with_update c = λ r st p.
    waiting_snoop r _ _ st c.in-Some.kind (sym (c.answered_kind.ensures r p) ∙ c.in-Some.is) (sym c.goes_with_update.ensures ∙ c.if-not-goes_with_update.true)

pub returns-then-passes_dirty : goal.returns-then-passes_dirty
returns-then-passes_dirty c = λ r st p.
    passed_beside r _ _ st c.in-Some.kind (sym (c.answered_kind.ensures r p) ∙ c.in-Some.is) (sym c.goes_with_update.ensures ∙ c.if-not-goes_with_update.false)
    (sym c.passes_dirty.ensures ∙ c.if-passes_dirty.true)

pub returns-else-passes_dirty : goal.returns-else-passes_dirty
returns-else-passes_dirty c = λ r st p.
    given_up_beside r _ _ st c.in-Some.kind (sym (c.answered_kind.ensures r p) ∙ c.in-Some.is) (sym c.goes_with_update.ensures ∙ c.if-not-goes_with_update.false)
    (sym c.passes_dirty.ensures ∙ c.if-passes_dirty.false)
