use Rattle.ace_explain.proofs.RowLetters.{k15_of_others}
use Rattle.ace_explain.proofs.answer_clauses.clause_of_k15.Goals as goal

pub returns-in_default : goal.returns-in_default
returns-in_default c = λ r p l. k15_of_others r _ c.in_default.not-Cr
