-- What the master of an ACE port keeps says of a trace.
use Rattle.std.specs.Prelude.{Bool, List}
use Rattle.ace_codes.specs.declared.kind.SnoopKind.{SnoopKind}
use Rattle.ace_codes.specs.declared.state.LineState.{LineState}
use Rattle.ace_tables.specs.declared.rows.Row.{Row}
use Rattle.ace_model.specs.Plans.{Plan}
use Rattle.ace_model.specs.Trace.{Trace}
use Rattle.ace_master.specs.declared.ace_port.AcePort.{AcePort}
use Rattle.ace_master.specs.AcePort.{AcePortStands}
use Rattle.ace_master.specs.Answering.{IsByWord}

-- What is kept of the port stands for the trace, and the policy, which may pick these rows, picks
-- none but those that the word of the plan allows.
pub record AceStands (at : AcePort) (rows : SnoopKind → LineState → Bool → List Row)
    (plan : Plan) (past : Trace) : Type 0 where
  pub port : AcePortStands at plan past
  pub picks : IsByWord plan.policy rows
