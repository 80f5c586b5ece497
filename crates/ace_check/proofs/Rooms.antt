-- Shares that have room for a run have room for each event that may be its next.
use Rattle.std.proofs.Common.{◌≡◌, ℕ, ◌<◌, ◌≤◌, ◌-◌, ◌^◌, ◌∷◌, None, length, slice_index_or, subst}
use Rattle.std.proofs.lemmas.Option.{get_or_from_slice_get, slice_get_within}
use Rattle.ace_check.proofs.Terms.{Event, Ac, Header, least_broken, snoops_of, Trace, PortRecord, PortCheck, HasRoom, IsRoomy, MayApply, PortsStand, Stands, record_at}
use Rattle.ace_portck.specs.Port as port
use Rattle.ace_portck.specs.Snoops as snoops
use Rattle.ace_portck.proofs.AllPorts.{has_room}
use Rattle.ace_portck.proofs.Rooms.{room-for-all}

pub room-for-next : (h : Header) (past : Trace) (e : Event) (n : ℕ) (s : PortCheck) → PortsStand h past s.ports.items s.outside → IsRoomy n s
    → ((p : ℕ) → length (snoops_of (e ∷ past) p) ≤ n) → HasRoom s e
room-for-next h past e n s stand roomy few = λ p k own at.
    let within = slice_get_within s.ports.items p k at in
    let one : slice_index_or s.ports.items p k ≡ k = get_or_from_slice_get s.ports.items p k k at in
    let here : record_at s.ports.items s.outside p ≡ k = get_or_from_slice_get s.ports.items p k s.outside at in
    let stands : port.PortStands h past p k = subst (port.PortStands h past p) here (stand p) in
    let room : snoops.IsRoomy n k.snoops = subst (λ (v : PortRecord). snoops.IsRoomy n v.snoops) one (roomy p k within) in
    room-for-all h past p n e k stands room own (few p)

-- an event that isn't an AC, and breaks no rule, may be heard by the ports without more room
pub may-apply : (s : PortCheck) (h : Header) (past : Trace) (e : Event) → Stands s (record { header = h; past = past }) → least_broken h past e ≡ None
    → length past < 2 ^ 64 - 1 → ((p addr snoop : ℕ) → e ≡ Ac p addr snoop → ⊥) → MayApply s (record { header = h; past = past }) e
may-apply s h past e stands fine few other = record { stands = stands; room = λ p k own at. has_room e k other; keeps = fine; few = few }
