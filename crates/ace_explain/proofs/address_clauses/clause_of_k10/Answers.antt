use Rattle.ace_explain.proofs.AddressLetters.{k10_of_others}
use Rattle.ace_explain.proofs.address_clauses.clause_of_k10.Goals as goal

pub returns-in_default : goal.returns-in_default
returns-in_default c = λ r. k10_of_others r _ c.in_default.not-Aw
