use Rattle.ace_engine.proofs.EnabledBySteps.{step-by-enabled-by}
use Rattle.ace_engine.proofs.laws.step_by_is_enabled_by.Goals as goal

pub returns : goal.returns
returns c = step-by-enabled-by
