use Rattle.ace_explain.proofs.SnoopLetters.{k12_of_others}
use Rattle.ace_explain.proofs.snoop_clauses.clause_of_k12.Goals as goal

pub returns-in_default : goal.returns-in_default
returns-in_default c = λ r p. k12_of_others r _ c.in_default.not-G
