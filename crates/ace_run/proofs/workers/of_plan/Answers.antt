use Rattle.std.proofs.Common.{◌≡◌, Result, Ok, Err, ap}
use Rattle.std.specs.Prelude.{IfOk}
use Rattle.ace_io.specs.declared.outside.NoMemory.{NoMemory}
use Rattle.ace_model.specs.Plans.{PlanWithRoom}
use Rattle.ace_fabric.specs.Runs.{Run}
use Rattle.ace_fabric.specs.System.{plan_of, starting}
use Rattle.ace_run.proofs.workers.of_plan.Goals as goal

-- what begins with the plan has it
of-start : (view : PlanWithRoom) (r : Result Run NoMemory) → IfOk r (λ s. s ≡ starting view) → IfOk r (λ s. plan_of s ≡ view)
of-start view (Ok s) is = ap plan_of is
of-start view (Err e) none = none

pub returns : goal.returns
returns c = of-start c.args.plan.now c.start.result c.start.ensures
