use Rattle.ace_clauses.proofs.Law.{broken_is_false, named_where_broken}
use Rattle.ace_clauses.proofs.laws.each_rule_is_its_clauses.Goals as goal

pub returns-clause-broken : goal.returns-clause-broken
returns-clause-broken c = broken_is_false

pub returns-clause-named : goal.returns-clause-named
returns-clause-named c = named_where_broken
