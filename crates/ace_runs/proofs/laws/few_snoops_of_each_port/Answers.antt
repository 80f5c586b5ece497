use Rattle.ace_runs.proofs.Few.EachPort.{six-snoops-for-each}
use Rattle.ace_runs.proofs.laws.few_snoops_of_each_port.Goals as goal

pub returns : goal.returns
returns c = six-snoops-for-each
