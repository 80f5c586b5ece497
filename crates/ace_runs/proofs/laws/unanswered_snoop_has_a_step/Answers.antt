use Rattle.ace_runs.proofs.NeverStuck.Snoops.{unanswered-snoop}
use Rattle.ace_runs.proofs.laws.unanswered_snoop_has_a_step.Goals as goal

pub returns : goal.returns
returns c = unanswered-snoop
