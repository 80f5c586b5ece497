use Rattle.std.proofs.Common.{sym, subst}
use Rattle.ace_explain.specs.Names.{Names}
use Rattle.ace_explain.proofs.LoadLetters.{k33_of_others, port_of_store}
use Rattle.ace_explain.proofs.load_clauses.clause_of_k33.Goals as goal

pub returns-in-D : goal.returns-in-D
returns-in-D c = λ r h stand.
    let s = c.in-D in
    subst (λ e. Names r e 33 c.clause_of_d.result) (sym s.is)
    (λ least. c.clause_of_d.ensures r s.strobe s.x s.line stand (port_of_store r s.port s.addr s.strobe s.x s.line h least) least)

pub returns-in_default : goal.returns-in_default
returns-in_default c = λ r h stand. k33_of_others r _ c.in_default.not-D
