-- What is kept of a port may hear each event that an engine may.
use Rattle.std.proofs.Common.{◌≡◌, ℕ, ◌∷◌, Some, arith}
use Rattle.ace_event.specs.declared.event.Event.{Event}
use Rattle.ace_model.specs.Plans.{Plan}
use Rattle.ace_model.specs.Trace.{Trace, port_of}
use Rattle.ace_runs.proofs.Few.EachPort.{six-snoops-for-each}
use Rattle.ace_engine.specs.Engines.{IsLegal}
use Rattle.ace_engine.specs.Rooms.{most_snoops}
use Rattle.ace_engine.proofs.Rooms.{few-events-there}
use Rattle.ace_portck.specs.OnePort.{MayHear}
use Rattle.ace_portck.specs.Port.{HasRoom}
use Rattle.ace_portck.proofs.Rooms.{room-for-all}
use Rattle.ace_master_state.specs.declared.kept.Kept.{Kept}
use Rattle.ace_master_state.specs.Kept.{KeptStands}

room-there : (plan : Plan) (past : Trace) (e : Event) (p : ℕ) (s : Kept) → KeptStands plan past p s → IsLegal plan (e ∷ past) → port_of e ≡ Some p → HasRoom s.port.kept e
room-there plan past e p s k legal own =
    let most = six-snoops-for-each plan (e ∷ past) p legal.accepted legal.follows legal.lean in
    let operations = legal.right.few in
    room-for-all plan.header past p most_snoops e s.port.kept k.port.kept k.room own (omega (arith, most, operations))

pub may-hear : (plan : Plan) (past : Trace) (e : Event) (p : ℕ) (s : Kept) → KeptStands plan past p s → IsLegal plan (e ∷ past) → MayHear s.port plan.header past p e
may-hear plan past e p s k legal = record {
  stands = k.port;
  keeps = legal.accepted.1;
  room = room-there plan past e p s k legal;
  few = few-events-there plan past k.legal;
}
