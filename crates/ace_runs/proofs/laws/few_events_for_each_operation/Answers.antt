use Rattle.ace_runs.proofs.Few.Operations.{three-for-each, two-for-each}
use Rattle.ace_runs.proofs.laws.few_events_for_each_operation.Goals as goal

pub returns-clause-transactions : goal.returns-clause-transactions
returns-clause-transactions c = three-for-each

pub returns-clause-silent : goal.returns-clause-silent
returns-clause-silent c = two-for-each
