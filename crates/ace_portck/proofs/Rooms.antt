-- What is kept of a port has room for an event, where it has room for all snoops of the port.
use Rattle.std.proofs.Common.{◌≡◌, ℕ, ◌+◌, ◌-◌, ◌/◌, ◌≤◌, Bool, true, false, ◌&&◌, ◌==◌, if◌then◌else◌, [], ◌∷◌, ◌++◌, length, Option, Some, None, sym, ap, ◌∙◌, refl, arith, length-append, length-drop}
use Rattle.std.proofs.lemmas.Bool.{eq-eqb}
use Rattle.ace_portck.proofs.Terms.{transfers_data, Event, Ac, Cr, Header, Snoop, answered, answers, data_beats, snoops_of, Trace, more, port_of, PortRecord, SnoopQueues, HasRoom, PortStands, IsRoomy, SnoopsStand, data_snoops}
use Rattle.ace_model.proofs.General.Options.{Some-injective}

-- each answer has data at most once
data-snoops-few : (past : Trace) (p : ℕ) → length (data_snoops past p) ≤ answers past p
data-snoops-few [] p = omega arith
data-snoops-few (Cr q resp st ∷ past) p = by (p == q) (transfers_data resp) (answered past p) (data-snoops-few past p)
  where
    by : (b c : Bool) (o : Option Snoop) → length (data_snoops past p) ≤ answers past p
        → length (more (data_snoops past p) (if b && c then o else None)) ≤ (if b then answers past p + 1 else answers past p)
    by true true None few = omega (arith, few)
    by true true (Some s) few = let long = length-append (data_snoops past p) (s ∷ []) in omega (arith, few, long)
    by true false o few = omega (arith, few)
    by false c o few = few
data-snoops-few (_ ∷ past) p = data-snoops-few past p

under-way-few : (past : Trace) (p : ℕ) (s : SnoopQueues) → SnoopsStand past p s → length s.waiting.items + length s.sending.items ≤ length (snoops_of past p)
under-way-few past p s stands =
    let waiting : length s.waiting.items ≡ length (snoops_of past p) - answers past p = ap length stands.waiting_is ∙ length-drop (answers past p) (snoops_of past p) in
    let sending : length s.sending.items ≡ length (data_snoops past p) - data_beats past p / 4 = ap length stands.sending_is ∙ length-drop (data_beats past p / 4) (data_snoops past p) in
    let few = data-snoops-few past p in
    let within = stands.answers_within in
    omega (arith, waiting, sending, few, within)

pub room-for-all : (h : Header) (past : Trace) (p n : ℕ) (e : Event) (k : PortRecord) → PortStands h past p k → IsRoomy n k.snoops → port_of e ≡ Some p
    → length (snoops_of (e ∷ past) p) ≤ n → HasRoom k e
room-for-all h past p n (Ac q addr snoop) k stands room own most =
    let same : q ≡ p = Some-injective q p own in
    let few = under-way-few past p k.snoops stands.snoops in
    let new : Snoop = record { place = length past; addr = addr; snoop = snoop } in
    let own_snoop : snoops_of (Ac q addr snoop ∷ past) p ≡ snoops_of past p ++ new ∷ [] = rw (eq-eqb p q (sym same)) refl in
    let long = length-append (snoops_of past p) (new ∷ []) in
    let more_now : length (snoops_of (Ac q addr snoop ∷ past) p) ≡ length (snoops_of past p) + 1 = ap length own_snoop ∙ long in
    let waiting = room.waiting in
    let sending = room.sending in
    (omega (arith, few, most, more_now, waiting), omega (arith, few, most, more_now, sending))
room-for-all h past p n e k stands room own most = tt
