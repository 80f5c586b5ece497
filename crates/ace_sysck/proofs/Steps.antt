-- What an accepted event says of the port and the transaction that it names.
use Rattle.std.proofs.Common.{◌≡◌, ℕ, ◌<◌, nat_lt, ◌∷◌, length, Option, Some, None, sym, ap, ◌∙◌}
use Rattle.std.proofs.lemmas.Bool.{and_parts, ltb-true}
use Rattle.ace_sysck.proofs.Terms.{option_map, Transaction, Event, G, Channel, issued, Header, Trace, outstanding, transaction_of, IsAccepted, may_be_granted, may_have, port_of, given, Target, Progress, Recording, target_of, progress_of, IsStep}
use Rattle.ace_model.proofs.Rules.Keeps.{accepted_keeps}
use Rattle.ace_model.proofs.General.Options.{is_none_or-at, is_some_and-is, Some-injective}
use Rattle.ace_model.proofs.Trace.Issued.{outstanding-named, outstanding-name}

-- the port of an event of an accepted trace is one of the header
pub port_within : (h : Header) (past : Trace) (e : Event) (p : ℕ) → IsAccepted h (e ∷ past) → port_of e ≡ Some p → p < h.ports
port_within h past e p accepted port =
    ltb-true p h.ports (and_parts (nat_lt p h.ports) _ (is_none_or-at (port_of e) (may_have h e) p (accepted_keeps h past e accepted).rule_1 port)).0

-- the transaction that an accepted G grants is outstanding
pub granted_one : (h : Header) (past : Trace) (q : ℕ) (c : Channel) (j : ℕ) → IsAccepted h (G q c j ∷ past)
    → (x : Transaction) × (outstanding h past q c j ≡ Some x) × (transaction_of past q c j ≡ Some x)
granted_one h past q c j accepted =
    let o = is_some_and-is (outstanding h past q c j) (may_be_granted h past) (accepted_keeps h past (G q c j) accepted).rule_12 in
    (o.0, o.1, outstanding-named h past q c j o.0 o.1)

-- what a target has as its transaction is what it was made of
pub progress_from : (h : Header) (past : Trace) (o : Option Transaction) (y : Progress) → option_map (progress_of h past) o ≡ Some y → o ≡ Some y.transaction
progress_from h past None y e = cc
progress_from h past (Some x) y e = ap Some (ap (λ (v : Progress). v.transaction) (Some-injective (progress_of h past x) y e))

-- What an accepted G says of the transaction that it grants.
pub record Grants (r : Recording) (e : Event) (q j : ℕ) (x : Transaction) : Type 0 where
  pub issues_none : issued (length r.past) e ≡ None
  pub grants : given r.past e ≡ Some x
  pub port : x.port < r.header.ports

pub grants-at : (r : Recording) (q : ℕ) (c : Channel) (j : ℕ) (e : Event) (t : Target) (y : Progress) → IsStep r e t → e ≡ G q c j → t.transaction ≡ Some y
    → Grants r e q j y.transaction
grants-at r q c j e t y step is some =
    let own : t ≡ target_of r.header r.past (G q c j) = step.target ∙ ap (target_of r.header r.past) is in
    let out = progress_from r.header r.past (outstanding r.header r.past q c j) y (ap (λ (v : Target). v.transaction) (sym own) ∙ some) in
    let named = outstanding-named r.header r.past q c j y.transaction out in
    let name = outstanding-name r.header r.past q c j y.transaction out in
    record {
      issues_none = ap (issued (length r.past)) is;
      grants = ap (given r.past) is ∙ named;
      port = rw name.port (port_within r.header r.past e q step.accepted (ap port_of is));
    }
