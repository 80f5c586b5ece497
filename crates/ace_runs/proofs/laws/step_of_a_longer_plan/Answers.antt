use Rattle.ace_runs.proofs.LongerPlans.{step-longer, enabled-longer}
use Rattle.ace_runs.proofs.laws.step_of_a_longer_plan.Goals as goal

pub returns-clause-step : goal.returns-clause-step
returns-clause-step c = step-longer

pub returns-clause-enabled : goal.returns-clause-enabled
returns-clause-enabled c = enabled-longer
