use Rattle.std.proofs.Common.{refl}
use Rattle.ace_explain.proofs.LoadSteps.{none-loaded}
use Rattle.ace_explain.proofs.last_loads.LastLoads.new.Goals as goal

pub returns : goal.returns
returns c = none-loaded _ refl
