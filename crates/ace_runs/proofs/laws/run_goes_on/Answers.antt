use Rattle.ace_runs.proofs.NeverStuck.RunsGoOn.{goes-on, goes-on-until-done}
use Rattle.ace_runs.proofs.laws.run_goes_on.Goals as goal

pub returns-clause-undone : goal.returns-clause-undone
returns-clause-undone c = goes-on

pub returns-clause-not_done : goal.returns-clause-not_done
returns-clause-not_done c = goes-on-until-done
