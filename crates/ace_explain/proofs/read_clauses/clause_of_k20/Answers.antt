use Rattle.ace_explain.proofs.ReadLetters.{k20_of_others}
use Rattle.ace_explain.proofs.read_clauses.clause_of_k20.Goals as goal

pub returns-in_default : goal.returns-in_default
returns-in_default c = λ r p. k20_of_others r _ c.in_default.not-R
