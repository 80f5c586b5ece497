use Rattle.std.proofs.Common.{sym, subst, ◌∙◌}
use Rattle.ace_clauses.specs.declared.letters.Letter.TheVariants as letter
use Rattle.ace_explain.specs.Names.{Names}
use Rattle.ace_explain.proofs.OrderLetters.{complete-kind, k39_of_others, no_complete}
use Rattle.ace_explain.proofs.order_clauses.clause_of_k39.Goals as goal

pub returns-in_default : goal.returns-in_default
returns-in_default c = λ r y. k39_of_others r _ c.in_default.not-Ac

pub returns-then-is_complete : goal.returns-then-is_complete
returns-then-is_complete c = λ r y.
    let s = c.in-Ac in
    subst (λ e. Names r e 39 c.clause_of_complete.result) (sym s.is)
    (c.clause_of_complete.ensures r s.snoop y (complete-kind _ (sym c.is_complete.ensures ∙ c.if-is_complete.true)))

pub returns-else-is_complete : goal.returns-else-is_complete
returns-else-is_complete c = λ r y.
    let s = c.in-Ac in
    subst (λ e. Names r e 39 letter.A) (sym s.is) (no_complete r s.port s.addr s.snoop (sym c.is_complete.ensures ∙ c.if-is_complete.false))
