-- What a master keeps of its port says of a trace.
use Rattle.std.specs.Prelude.{◌≡◌, true}
use Rattle.ace_model.specs.Plans.{Plan}
use Rattle.ace_model.specs.Trace.{Trace}
use Rattle.ace_model.specs.Transactions.{is_ace}
use Rattle.ace_engine.specs.Engines.{IsLegal}
use Rattle.ace_engine.specs.Rooms.{most_snoops}
use Rattle.ace_portck.specs.declared.one_port.OnePort.{OnePort}
use Rattle.ace_portck.specs.OnePort.{IsRoomy, OnePortStands, port_of}

-- It says what there is to say of its port, and has room for all snoops of a plan at an ACE port;
-- others have none.
pub record KeepsPort (s : OnePort) (plan : Plan) (past : Trace) : Type 0 where
  pub legal : IsLegal plan past
  pub kept : OnePortStands s plan.header past (port_of s)
  pub room : is_ace plan.header (port_of s) ≡ true → IsRoomy most_snoops s
