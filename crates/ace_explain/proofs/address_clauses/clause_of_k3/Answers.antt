use Rattle.ace_explain.proofs.AddressLetters.{k3_of_others}
use Rattle.ace_explain.proofs.address_clauses.clause_of_k3.Goals as goal

pub returns-in-Mem : goal.returns-in-Mem
returns-in-Mem c = λ r p. rw c.in-Mem.is (c.clause_of_mem.ensures r c.in-Mem.line p)

pub returns-in_default : goal.returns-in_default
returns-in_default c = λ r p. k3_of_others r _ c.in_default.not-Mem
