use Rattle.std.proofs.Common.{sym, subst}
use Rattle.ace_explain.specs.Names.{Names}
use Rattle.ace_explain.proofs.CacheLetters.{k32_of_others}
use Rattle.ace_explain.proofs.cache_clauses.clause_of_k32.Goals as goal

pub returns-in-D : goal.returns-in-D
returns-in-D c = λ r p l.
    let s = c.in-D in
    subst (λ e. Names r e 32 c.clause_of_d.result) (sym s.is) (c.clause_of_d.ensures r s.strobe s.line p l)

pub returns-in_default : goal.returns-in_default
returns-in_default c = λ r p l. k32_of_others r _ c.in_default.not-D
