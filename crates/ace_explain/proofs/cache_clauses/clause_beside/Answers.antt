use Rattle.std.proofs.Common.{sym, ap, ◌∙◌}
use Rattle.ace_tables.specs.States.{is_unique}
use Rattle.ace_explain.proofs.CacheLetters.{busy_store, shared_store}
use Rattle.ace_explain.proofs.cache_clauses.clause_beside.Goals as goal

pub returns-then-is_unique : goal.returns-then-is_unique
returns-then-is_unique c = λ r own strobe x line l is other.
    busy_store r c.args.port c.args.addr strobe x line l.accepted own is other
    (ap is_unique (sym (c.state.ensures r c.args.addr l c.place.ensures)) ∙ sym c.is_unique.ensures ∙ c.if-is_unique.true)

pub returns-else-is_unique : goal.returns-else-is_unique
returns-else-is_unique c = λ r own strobe x line l is other.
    shared_store r c.args.port c.args.addr strobe x line l.accepted own is other
    (ap is_unique (sym (c.state.ensures r c.args.addr l c.place.ensures)) ∙ sym c.is_unique.ensures ∙ c.if-is_unique.false)
