use Rattle.std.proofs.lemmas.Bool.{eq-eqb}
use Rattle.ace_explain.proofs.LoadLetters.{lost_line}
use Rattle.ace_explain.proofs.load_clauses.clause_of_d.Goals as goal

pub returns-else-load : goal.returns-else-load
returns-else-load c = λ r strobe x line stand low.
    lost_line r c.args.port c.args.addr strobe x line c.of.result (c.of.ensures r.past stand low) c.in-Some.load c.in-Some.is (eq-eqb _ _ c.if-addr-load.false) c.if-load.false
