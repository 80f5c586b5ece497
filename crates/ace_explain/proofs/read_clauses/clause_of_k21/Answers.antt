use Rattle.ace_explain.proofs.ReadLetters.{k21_of_others}
use Rattle.ace_explain.proofs.read_clauses.clause_of_k21.Goals as goal

pub returns-in_default : goal.returns-in_default
returns-in_default c = λ r p s. k21_of_others r _ c.in_default.not-R
