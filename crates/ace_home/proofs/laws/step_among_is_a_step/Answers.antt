use Rattle.std.proofs.Common.{refl}
use Rattle.ace_home.proofs.Among.{step-is}
use Rattle.ace_home.proofs.laws.step_among_is_a_step.Goals as goal

pub returns-clause-step : goal.returns-clause-step
returns-clause-step c = λ among plan past p burst s. step-is among plan past p burst s

pub returns-clause-enabled : goal.returns-clause-enabled
returns-clause-enabled c = λ plan past p. refl
