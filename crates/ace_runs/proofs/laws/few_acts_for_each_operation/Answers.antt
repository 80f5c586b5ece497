use Rattle.ace_runs.proofs.Few.Acts.{two-acts-for-each, one-for-each}
use Rattle.ace_runs.proofs.laws.few_acts_for_each_operation.Goals as goal

pub returns-clause-acts : goal.returns-clause-acts
returns-clause-acts c = two-acts-for-each

pub returns-clause-retirements : goal.returns-clause-retirements
returns-clause-retirements c = one-for-each
