use Rattle.ace_explain.proofs.MemoryLetters.{k24_of_others}
use Rattle.ace_explain.proofs.memory_clauses.clause_of_k24.Goals as goal

pub returns-in_default : goal.returns-in_default
returns-in_default c = λ r p l. k24_of_others r _ c.in_default.not-M
