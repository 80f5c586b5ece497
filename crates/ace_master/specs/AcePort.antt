-- What the master of an ACE port keeps, but for its policy, says of a trace.
use Rattle.std.specs.Prelude.{ℕ, ◌≡◌, true, false, List, Option, Some}
use Rattle.ace_event.specs.declared.event.Event.{Event}
use Rattle.ace_model.specs.declared.plans.Op.{Op}
use Rattle.ace_model.specs.Plans.{Plan}
use Rattle.ace_model.specs.Trace.{Trace}
use Rattle.ace_runs.specs.Bursts.{onto}
use Rattle.ace_runs.specs.Operations.{next_operation, operations_of}
use Rattle.ace_runs.specs.Requests.{is_waiting}
use Rattle.ace_runs.specs.Steps.{is_step_by}
use Rattle.ace_portck.specs.declared.target.WriteData.{WriteData}
use Rattle.ace_master_laws.specs.Orderly.{IsOrderly}
use Rattle.ace_master_state.specs.Kept.{KeptStands}
use Rattle.ace_master.specs.declared.ace_port.AcePort.{AcePort}
use Rattle.ace_master.specs.Answering.{AreDataSent}
use Rattle.ace_master.specs.Lite.{own_steps}
use Rattle.ace_master.specs.Sending.{UnsentStands}

-- What it keeps beside what `Kept` is: the port's operations, and the data of the burst that isn't
-- sent where they are an operation's. The port takes steps alone: its next operation has come as
-- far as they let it, and it has sent the data of its answers.
pub record AceTells (plan : Plan) (past : Trace) (p : ℕ) (operations : List Op)
    (unsent : Option WriteData) : Type 0 where
  pub operations_are : operations ≡ operations_of plan p
  pub orderly : IsOrderly plan past p
  pub answered : AreDataSent past p
  pub unsent_is : UnsentStands plan past p unsent

pub record AcePortStands (s : AcePort) (plan : Plan) (past : Trace) : Type 0 where
  pub kept : KeptStands plan past s.port s.kept
  pub tells : AceTells plan past s.port s.operations.items s.unsent

-- The burst is a step of the port, and what is kept stands for the trace with it.
pub record IsAceTurn (s : AcePort) (plan : Plan) (past : Trace) (burst : List Event) : Type 0 where
  pub step : is_step_by own_steps plan past s.port burst ≡ true
  pub stands : AcePortStands s plan (onto burst past)

-- It stands for the trace, and the port's next operation doesn't wait.
pub record IsGoingOn (s : AcePort) (plan : Plan) (past : Trace) (op : Op) : Type 0 where
  pub stands : AcePortStands s plan past
  pub next : next_operation plan past s.port ≡ Some op
  pub goes : is_waiting plan.header past s.port op ≡ false
