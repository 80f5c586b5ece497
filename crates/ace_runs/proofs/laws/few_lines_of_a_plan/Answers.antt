use Rattle.ace_runs.proofs.Few.KnownLines.{one-line-for-each}
use Rattle.ace_runs.proofs.laws.few_lines_of_a_plan.Goals as goal

pub returns : goal.returns
returns c = one-line-for-each
