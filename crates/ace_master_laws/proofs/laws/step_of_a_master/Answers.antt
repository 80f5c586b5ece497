use Rattle.ace_master_laws.proofs.MasterLaw.{orderly-step}
use Rattle.ace_master_laws.proofs.laws.step_of_a_master.Goals as goal

pub returns-clause-legal : goal.returns-clause-legal
returns-clause-legal c plan past p burst ace legal o s chosen = (orderly-step plan past p burst ace legal o s chosen).0

pub returns-clause-orderly : goal.returns-clause-orderly
returns-clause-orderly c plan past p burst ace legal o s chosen = (orderly-step plan past p burst ace legal o s chosen).1
