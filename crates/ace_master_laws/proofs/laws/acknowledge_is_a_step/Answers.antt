use Rattle.ace_master_laws.proofs.AcknowledgeSteps.AcknowledgeLaw.{acknowledge-steps}
use Rattle.ace_master_laws.proofs.laws.acknowledge_is_a_step.Goals as goal

pub returns : goal.returns
returns c = acknowledge-steps
