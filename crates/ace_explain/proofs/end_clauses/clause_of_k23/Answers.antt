use Rattle.ace_explain.proofs.EndLetters.{k23_of_others}
use Rattle.ace_explain.proofs.end_clauses.clause_of_k23.Goals as goal

pub returns-in_default : goal.returns-in_default
returns-in_default c = λ r p l. k23_of_others r _ c.in_default.not-Rk
