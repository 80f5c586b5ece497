use Rattle.ace_explain.proofs.BitLetters.{k19_of_others}
use Rattle.ace_explain.proofs.bit_clauses.clause_of_k19.Goals as goal

pub returns-in_default : goal.returns-in_default
returns-in_default c = λ r p l. k19_of_others r _ c.in_default.not-R
