use Rattle.std.proofs.Common.{◌≡◌, ◌++◌, false, take}
use Rattle.ace_model.specs.Plans.{Plan}
use Rattle.ace_model.specs.Trace.{Trace}
use Rattle.ace_model.specs.Transactions.{is_ace}
use Rattle.ace_runs.specs.Bursts.{onto}
use Rattle.ace_engine.specs.Engines.{IsLegal}
use Rattle.ace_portck.specs.OnePort.{port_of}
use Rattle.ace_master_state.specs.Identifiers.{IdentifiersStand}
use Rattle.ace_master.specs.KeptPort.{KeepsPort}
use Rattle.ace_master.proofs.kept_port.put.Given as goal

-- the events so far are heard and put
abbrev pub invariant-loop-event : goal.invariant-loop-event
invariant-loop-event l = record {
  kept : (plan : Plan) (past : Trace) → KeepsPort l.initial.port plan past → IsLegal plan (onto l.events past) → KeepsPort l.port plan (onto (take l.event-index l.events) past);
  identifiers :
      (plan : Plan) (past : Trace) → IsLegal plan (onto l.events past) → is_ace plan.header (port_of l.initial.port) ≡ false
      → IdentifiersStand plan.header past (port_of l.initial.port) l.initial.identifiers
      → IdentifiersStand plan.header (onto (take l.event-index l.events) past) (port_of l.initial.port) l.identifiers;
  port : port_of l.port ≡ port_of l.initial.port;
  burst : l.out ≡ l.initial.out ++ take l.event-index l.events;
}
