use Rattle.std.proofs.Common.{option_copied, sym, ap, ◌∙◌}
use Rattle.ace_explain.proofs.CacheLetters.{free_store}
use Rattle.ace_explain.proofs.cache_clauses.clause_of_d.Goals as goal

pub returns-in-None : goal.returns-in-None
returns-in-None c = λ r strobe line p l.
    free_store r c.args.port c.args.addr strobe c.args.x line p.accepted (sym (c.own.ensures r p) ∙ ap option_copied c.in-None.is)

pub returns-then-awaits_store : goal.returns-then-awaits_store
returns-then-awaits_store c = λ r strobe line p l.
    c.clause_of_own_store.ensures r c.args.port c.args.addr strobe line p.accepted (sym (c.own.ensures r p) ∙ ap option_copied c.in-Some.is)
    (sym c.awaits_store.ensures ∙ c.if-awaits_store.true)

pub returns-else-awaits_store : goal.returns-else-awaits_store
returns-else-awaits_store c = λ r strobe line p l.
    c.clause_beside.ensures r c.in-Some.own.now strobe c.args.x line l (sym (c.own.ensures r p) ∙ ap option_copied c.in-Some.is)
    (sym c.awaits_store.ensures ∙ c.if-awaits_store.false)
