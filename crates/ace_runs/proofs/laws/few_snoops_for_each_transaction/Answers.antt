use Rattle.ace_runs.proofs.Few.LineSnoops.{line-snoops-few}
use Rattle.ace_runs.proofs.Few.Parts.{forwarded-few}
use Rattle.ace_runs.proofs.Few.Completions.{completed-few, completions-few}
use Rattle.ace_runs.proofs.Few.Queues.{answers-few}
use Rattle.ace_runs.proofs.Few.Beats.{snoop-beats-few}
use Rattle.ace_runs.proofs.laws.few_snoops_for_each_transaction.Goals as goal

pub returns-clause-lines : goal.returns-clause-lines
returns-clause-lines c = line-snoops-few

pub returns-clause-parts : goal.returns-clause-parts
returns-clause-parts c = forwarded-few

pub returns-clause-completions : goal.returns-clause-completions
returns-clause-completions c = completions-few

pub returns-clause-syncs : goal.returns-clause-syncs
returns-clause-syncs c = completed-few

pub returns-clause-answers : goal.returns-clause-answers
returns-clause-answers c = answers-few

pub returns-clause-snoop_beats : goal.returns-clause-snoop_beats
returns-clause-snoop_beats c = snoop-beats-few
