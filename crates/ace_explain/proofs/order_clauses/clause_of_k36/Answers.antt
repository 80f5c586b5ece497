use Rattle.ace_explain.proofs.OrderLetters.{k36_of_others}
use Rattle.ace_explain.proofs.order_clauses.clause_of_k36.Goals as goal

pub returns-in_default : goal.returns-in_default
returns-in_default c = λ r y. k36_of_others r _ c.in_default.not-Ac
