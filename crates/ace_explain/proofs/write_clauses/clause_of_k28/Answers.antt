use Rattle.ace_explain.proofs.WriteLetters.{k28_of_others}
use Rattle.ace_explain.proofs.write_clauses.clause_of_k28.Goals as goal

pub returns-in_default : goal.returns-in_default
returns-in_default c = λ r p. k28_of_others r _ c.in_default.not-Wk
