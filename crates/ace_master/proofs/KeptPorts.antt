-- What is kept of a port has room for each event that an engine may hear.
use Rattle.std.proofs.Common.{◌≡◌, true, false, ◌∷◌, nat_lt, Some, inl, inr, sym, ap, ◌∙◌, arith}
use Rattle.std.proofs.lemmas.Bool.{and_parts, cases_Bool}
use Rattle.ace_event.specs.declared.event.Event.{Event}
use Rattle.ace_event.specs.declared.event.Event.TheVariants.{Ac}
use Rattle.ace_model.specs.Plans.{Plan}
use Rattle.ace_model.specs.Trace.{Trace, port_of}
use Rattle.ace_model.specs.Transactions.{is_ace}
use Rattle.ace_model.proofs.General.Options.{Some-injective}
use Rattle.ace_model.proofs.Rules.Keeps.{accepted_keeps}
use Rattle.ace_runs.proofs.Few.EachPort.{six-snoops-for-each}
use Rattle.ace_engine.specs.Engines.{IsLegal}
use Rattle.ace_engine.specs.Rooms.{most_snoops}
use Rattle.ace_engine.proofs.Rooms.{few-events-there}
use Rattle.ace_portck.specs.declared.one_port.OnePort.{OnePort}
use Rattle.ace_portck.specs.OnePort as one_port
use Rattle.ace_portck.specs.Port.{HasRoom}
use Rattle.ace_portck.proofs.Rooms.{room-for-all}
use Rattle.ace_master.specs.KeptPort.{KeepsPort}

-- a port of the other kind has no snoops
unsnooped : (plan : Plan) (past : Trace) (e : Event) (s : OnePort) → IsLegal plan (e ∷ past) → port_of e ≡ Some (one_port.port_of s) → is_ace plan.header (one_port.port_of s) ≡ false → HasRoom s.kept e
unsnooped plan past (Ac q addr snoop) s legal own lite =
    let ace = (and_parts (nat_lt q plan.header.ports) (is_ace plan.header q) (accepted_keeps plan.header past (Ac q addr snoop) legal.accepted).rule_1).1 in
    let bad : true ≡ false = sym ace ∙ ap (is_ace plan.header) (Some-injective q (one_port.port_of s) own) ∙ lite in cc
unsnooped plan past e s legal own lite = tt

room-there : (plan : Plan) (past : Trace) (e : Event) (s : OnePort) → KeepsPort s plan past → IsLegal plan (e ∷ past) → port_of e ≡ Some (one_port.port_of s) → HasRoom s.kept e
room-there plan past e s k legal own =
    let p = one_port.port_of s in
    elim (cases_Bool (is_ace plan.header p)) [
      | inr lite ↦ unsnooped plan past e s legal own lite
      | inl ace ↦
          let most = six-snoops-for-each plan (e ∷ past) p legal.accepted legal.follows legal.lean in
          let operations = legal.right.few in
          room-for-all plan.header past p most_snoops e s.kept k.kept.kept (k.room ace) own (omega (arith, most, operations))
    ]

pub may-hear : (plan : Plan) (past : Trace) (e : Event) (s : OnePort) → KeepsPort s plan past → IsLegal plan (e ∷ past) → one_port.MayHear s plan.header past (one_port.port_of s) e
may-hear plan past e s k legal = record {
  stands = k.kept;
  keeps = legal.accepted.1;
  room = room-there plan past e s k legal;
  few = few-events-there plan past k.legal;
}
