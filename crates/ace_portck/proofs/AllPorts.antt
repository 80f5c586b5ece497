-- The records of all ports, where one is replaced.
use Rattle.std.proofs.Common.{◌≡◌, ◌≢◌, ◌⊎◌, ℕ, Bool, false, ◌&&◌, nat_eq, nat_lt, ◌∷◌, ◌<◌, List, length, Option, Some, None, Result, Ok, Err, slice_get, slice_set, refl, sym, ap, subst, ◌∙◌, inl, inr, arith, get_or-set_same, get_or-set_other}
use Rattle.ace_portck.proofs.Terms.{OnOk, OnErr, All, Header, Read, Write, Event, Ac, IsAccepted, may_have, Trace, port_of, is_some_and, PortRecord, PortStands, HasRoom, moves_channel, IsFresh, PortsStand, record_at}
use Rattle.std.proofs.lemmas.Bool.{and_parts, cases_eq, cases_lt, ltb-true, ne_eqb}
use Rattle.std.proofs.lemmas.List.{length-set, get_or_past}
use Rattle.std.proofs.lemmas.Option.{slice_get-get_or}
use Rattle.ace_model.proofs.General.Options.{Some-injective, is_none_or-at}
use Rattle.ace_model.proofs.Rules.Keeps.{accepted_keeps}
use Rattle.ace_portck.proofs.Elsewhere.{snoops_elsewhere, writes_elsewhere, retired_elsewhere}
use Rattle.ace_portck.proofs.Stays.{pending_elsewhere}

pub on_ok : {A E P Q : Type 0} → (r : Result A E) → OnOk r P → (P → Q) → OnOk r Q
on_ok (Ok x) p f = f p
on_ok (Err e) p f = p

pub on_err : {A E P Q : Type 0} → (r : Result A E) → OnErr r P → (P → Q) → OnErr r Q
on_err (Ok x) p f = p
on_err (Err e) p f = f p

-- an event that isn't an AC needs no room
pub has_room : (e : Event) (k : PortRecord) → ((p addr snoop : ℕ) → e ≡ Ac p addr snoop → ⊥) → HasRoom k e
has_room (Ac p addr snoop) k other = absurd (other p addr snoop refl)
has_room _ k other = tt

-- the record at a place after it was replaced
pub set_there : (ports : List PortRecord) (i : ℕ) (new k : PortRecord) → i < length ports → slice_get (slice_set ports i new) i ≡ Some k → new ≡ k
set_there ports i new k within at =
    let long = length-set ports i new in
    let there = slice_get-get_or (slice_set ports i new) i new (omega (arith, within, long)) in
    Some-injective new k (ap Some (sym (get_or-set_same ports i new new within)) ∙ sym there ∙ at)

module _ (h : Header) (past : Trace) (ports : List PortRecord) (outside new : PortRecord) (i : ℕ) (within : i < length ports) where
  -- the others stand, and the new one stands for its port
  pub ports_set : PortStands h past i new → ((p : ℕ) → p ≢ i → PortStands h past p (record_at ports outside p)) → PortsStand h past (slice_set ports i new) outside
  ports_set here others = λ p. by p (cases_eq p i)
    where
      by : (p : ℕ) → (p ≡ i) ⊎ (p ≡ i → ⊥) → PortStands h past p (record_at (slice_set ports i new) outside p)
      by p (inl same) =
          subst (λ q. PortStands h past q (record_at (slice_set ports i new) outside q)) (sym same)
          (subst (PortStands h past i) (sym (get_or-set_same ports i new outside within)) here)
      by p (inr off) = subst (PortStands h past p) (sym (get_or-set_other ports i p new outside off)) (others p off)

-- records of ports without events
pub fresh_at : (ports : List PortRecord) (outside : PortRecord) → All IsFresh ports → IsFresh outside → (p : ℕ) → IsFresh (record_at ports outside p)
fresh_at ports outside all other p =
    elim (cases_lt p (length ports)) [
      | inl low ↦ all p outside low
      | inr high ↦ subst IsFresh (sym (get_or_past ports p outside high)) other
    ]

no_port : (o : Option ℕ) (p : ℕ) (b : Bool) → o ≢ Some p → (is_some_and o (λ q. nat_eq p q) && b) ≡ false
no_port None p b other = refl
no_port (Some q) p b other = let f = ne_eqb p q (λ e. other (ap Some (sym e))) in rw f refl

-- an event that isn't the port's leaves its record as it is
pub port_elsewhere : (h : Header) (past : Trace) (p : ℕ) (k : PortRecord) (e : Event) → IsAccepted h (e ∷ past) → port_of e ≢ Some p
    → PortStands h past p k → PortStands h (e ∷ past) p k
port_elsewhere h past p k e a other s = record {
  transactions = record {
    accepted = a;
    reads = pending_elsewhere h past e p Read a (no_port (port_of e) p (moves_channel e Read) other) k.transactions.reads s.transactions.reads;
    writes = pending_elsewhere h past e p Write a (no_port (port_of e) p (moves_channel e Write) other) k.transactions.writes s.transactions.writes;
  };
  snoops = snoops_elsewhere past p k.snoops e other s.snoops;
  bursts = writes_elsewhere h past p k.bursts e a other s.bursts;
  retired = retired_elsewhere past p k.retired e other s.retired;
}

-- the port of an event of an accepted trace is in the header
pub port_below : (h : Header) (past : Trace) (e : Event) (p : ℕ) → IsAccepted h (e ∷ past) → port_of e ≡ Some p → p < h.ports
port_below h past e p a own =
    let may = is_none_or-at (port_of e) (may_have h e) p (accepted_keeps h past e a).rule_1 own in
    ltb-true p h.ports (and_parts (nat_lt p h.ports) _ may).0
