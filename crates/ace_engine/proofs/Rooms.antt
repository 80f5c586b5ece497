-- In a trace for which an engine may stand, what is kept has room for what comes.
use Rattle.std.proofs.Common.{◌≡◌, ℕ, ◌-◌, ◌^◌, ◌≤◌, ◌<◌, ◌∷◌, length, Some, slice_index_or, subst, arith}
use Rattle.std.proofs.lemmas.Option.{get_or_from_slice_get, slice_get_within}
use Rattle.ace_event.specs.declared.event.Event.{Event}
use Rattle.ace_model.specs.Lines.{known_lines}
use Rattle.ace_model.specs.Plans.{Plan}
use Rattle.ace_model.specs.Trace.{Trace}
use Rattle.ace_runs.proofs.Few.Bound.{few-events}
use Rattle.ace_runs.proofs.Few.EachPort.{six-snoops-for-each}
use Rattle.ace_runs.proofs.Few.KnownLines.{one-line-for-each}
use Rattle.ace_engine.specs.Engines.{IsLegal}
use Rattle.ace_engine.specs.Rooms.{most_lines, most_snoops}
use Rattle.ace_portck.specs.declared.port.PortRecord.{PortRecord}
use Rattle.ace_portck.specs.declared.ports.PortCheck.{PortCheck}
use Rattle.ace_portck.specs.Port as port
use Rattle.ace_portck.specs.Snoops as snoops
use Rattle.ace_portck.specs.Stands.{HasRoom, IsRoomy, PortsStand, record_at}
use Rattle.ace_portck.proofs.Rooms.{room-for-all}

-- there are fewer events than a place can count
pub few-events-there : (plan : Plan) (past : Trace) → IsLegal plan past → length past < 2 ^ 64 - 1
few-events-there plan past legal =
    let few = few-events plan past legal.right legal.accepted legal.follows legal.lean in
    let most = legal.right.few in
    omega (arith, few, most)

pub room-for-event : (plan : Plan) (past : Trace) (e : Event) (s : PortCheck) → IsLegal plan (e ∷ past) → PortsStand plan.header past s.ports.items s.outside → IsRoomy most_snoops s → HasRoom s e
room-for-event plan past e s legal stand roomy = λ p k own at.
    let within = slice_get_within s.ports.items p k at in
    let one : slice_index_or s.ports.items p k ≡ k = get_or_from_slice_get s.ports.items p k k at in
    let here : record_at s.ports.items s.outside p ≡ k = get_or_from_slice_get s.ports.items p k s.outside at in
    let stands : port.PortStands plan.header past p k = subst (port.PortStands plan.header past p) here (stand p) in
    let room : snoops.IsRoomy most_snoops k.snoops = subst (λ (v : PortRecord). snoops.IsRoomy most_snoops v.snoops) one (roomy p k within) in
    let most = six-snoops-for-each plan (e ∷ past) p legal.accepted legal.follows legal.lean in
    let operations = legal.right.few in
    room-for-all plan.header past p most_snoops e k stands room own (omega (arith, most, operations))

-- there are no more lines than this
pub few-lines-known : (plan : Plan) (past : Trace) → IsLegal plan past → length (known_lines past) ≤ most_lines
few-lines-known plan past legal =
    let few = one-line-for-each plan past legal.lean in
    let most = legal.right.few in
    omega (arith, few, most)
