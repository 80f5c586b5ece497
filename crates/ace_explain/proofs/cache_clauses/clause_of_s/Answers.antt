use Rattle.std.proofs.Common.{sym, ap, ◌∙◌}
use Rattle.ace_tables.specs.SilentTransitions.{is_silent_move}
use Rattle.ace_explain.proofs.CacheLetters.{lost_update, loud_move}
use Rattle.ace_explain.proofs.cache_clauses.clause_of_s.Goals as goal

pub returns-then-silent_ok : goal.returns-then-silent_ok
returns-then-silent_ok c = λ r l.
    lost_update r c.args.port c.args.addr c.args.st
    (ap (λ v. is_silent_move v c.args.st) (sym (c.state.ensures r c.args.addr l c.place.ensures)) ∙ sym c.silent_ok.ensures ∙ c.if-silent_ok.true)

pub returns-else-silent_ok : goal.returns-else-silent_ok
returns-else-silent_ok c = λ r l.
    loud_move r c.args.port c.args.addr c.args.st
    (ap (λ v. is_silent_move v c.args.st) (sym (c.state.ensures r c.args.addr l c.place.ensures)) ∙ sym c.silent_ok.ensures ∙ c.if-silent_ok.false)
