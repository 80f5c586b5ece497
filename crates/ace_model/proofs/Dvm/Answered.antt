-- A complete part of a DVM message was answered by every other ACE port.
use Rattle.std.proofs.Common.{◌≡◌, List, [], ◌++◌, ◌≢◌, ℕ, Bool, true, nat_eq, nat_lt, ◌∷◌, Some, None, refl}
use Rattle.std.proofs.lemmas.Bool.{and_parts, and_from, ne_eqb, ltb-true}
use Rattle.ace_model.proofs.Terms.{list_all, ports_below, is_transaction, may_respond, Read, Write, Event, R, B, Header, Transaction, Trace, implies, is_some_and, is_dvm_message, is_ace, outstanding, served_by}
use Rattle.ace_model.proofs.Terms.{is_completion_event, is_completed, is_message_part, is_other_ace, has_answered, is_due, is_answered_by_all, IsAccepted}
use Rattle.ace_model.proofs.Rules.Keeps.{accepted_keeps}
use Rattle.ace_model.proofs.Trace.Served.{had_some, outstands}
use Rattle.ace_model.proofs.Trace.Growth.{accepted-first}
use Rattle.ace_model.proofs.Trace.Issued.{issued_at}
use Rattle.ace_model.proofs.Dvm.Forwarding.{has_answered-later}
use Rattle.ace_model.proofs.General.Ports.{each_at}
use Rattle.ace_model.proofs.General.Options.{is_none_or-at}
use Rattle.ace_model.proofs.General.Booleans.{implies-at}

-- what holds of every ACE port other than p holds of this one
pub at_other_ace : (h : Header) (p q : ℕ) (test : ℕ → Bool) → list_all (λ r. implies (is_other_ace h p r) (test r)) (ports_below h.ports) ≡ true
    → is_ace h q ≡ true → q ≢ p → test q ≡ true
at_other_ace h p q test each ace other =
    let within = ltb-true q h.ports (and_parts (nat_lt q h.ports) _ ace).0 in
    implies-at (is_other_ace h p q) (test q) (each_at h.ports (λ r. implies (is_other_ace h p r) (test r)) q each within)
    (and_from (is_ace h q) _ ace (rw (ne_eqb q p other) refl))

module _ (h : Header) (x : Transaction) (q : ℕ) (m : is_message_part x ≡ true) (ace : is_ace h q ≡ true) (other : q ≢ x.port) where
  -- in an accepted trace in which the part was issued, the port has answered it
  abbrev IsAnsweredIn : Trace → Type 0
  IsAnsweredIn past = IsAccepted h past → issued_at past x.place ≡ Some x → has_answered past x q ≡ true

  -- an R that completes it comes after the answers; a B completes no part
  completion-answered : (later : List Event) (e : Event) (before : Trace) → is_completion_event e ≡ true → is_transaction (served_by before e) x ≡ true
      → IsAnsweredIn (later ++ e ∷ before)
  completion-answered later (R p i resp last word) before passes belongs a there =
      let e : Event = R p i resp last word in
      let keeps = accepted_keeps h before e (accepted-first h later (e ∷ before) a) in
      let o = (outstands h later e before p Read i (is_due h before resp last) x keeps.rule_18 belongs there).0 in
      let each = is_none_or-at (outstanding h before p Read i) (λ y. implies (is_message_part y) (is_answered_by_all h before y)) x keeps.rule_37 o.out in
      let answered = at_other_ace h x.port q (has_answered before x) (implies-at (is_message_part x) _ each m) ace other in
      has_answered-later later (e ∷ before) x q (has_answered-later (e ∷ []) before x q answered)
  completion-answered later (B p i resp) before passes belongs a there =
      let e : Event = B p i resp in
      let keeps = accepted_keeps h before e (accepted-first h later (e ∷ before) a) in
      let o = (outstands h later e before p Write i (may_respond before) x (and_parts (nat_eq resp 0) _ keeps.rule_26).1 belongs there).0 in
      let bad : is_some_and None is_dvm_message ≡ true = rw o.name.chan at m in cc
  completion-answered later e before passes belongs a there = cc

  -- every other ACE port has answered a complete part
  pub complete_part-answered : (past : Trace) → is_completed past x ≡ true → IsAnsweredIn past
  complete_part-answered past complete = had_some is_completion_event IsAnsweredIn past x completion-answered complete
