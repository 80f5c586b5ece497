use Rattle.ace_explain.proofs.CacheLetters.{k29_of_others}
use Rattle.ace_explain.proofs.cache_clauses.clause_of_k29.Goals as goal

pub returns-in_default : goal.returns-in_default
returns-in_default c = λ r l. k29_of_others r _ c.in_default.not-S
