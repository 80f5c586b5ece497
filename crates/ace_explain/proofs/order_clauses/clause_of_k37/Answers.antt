use Rattle.ace_explain.proofs.OrderLetters.{k37_of_others}
use Rattle.ace_explain.proofs.order_clauses.clause_of_k37.Goals as goal

pub returns-in_default : goal.returns-in_default
returns-in_default c = λ r p y. k37_of_others r _ c.in_default.not-R
