use Rattle.ace_explain.proofs.CacheLetters.{exclusive_store, part_store, second_store}
use Rattle.ace_explain.proofs.cache_clauses.clause_of_own_store.Goals as goal

pub returns-then-own : goal.returns-then-own
returns-then-own c = λ r port addr strobe line a is waits. second_store r port addr strobe c.args.x line a c.args.own.now is waits c.if-own.true

pub returns-then-x : goal.returns-then-x
returns-then-x c = λ r port addr strobe line a is waits. exclusive_store r port addr strobe c.args.x line a c.args.own.now is waits c.if-own.false c.if-x.true

pub returns-else-x : goal.returns-else-x
returns-else-x c = λ r port addr strobe line a is waits. part_store r port addr strobe c.args.x line a c.args.own.now is waits c.if-own.false c.if-x.false
