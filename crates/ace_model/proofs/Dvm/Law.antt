-- In an accepted trace a Sync waits for all.
use Rattle.std.proofs.Common.{◌≡◌, ◌≢◌, ℕ, ◌<◌, true, ◌&&◌, not, nat_eq, nat_le, [], ◌∷◌, Some, None, sym, ap, ◌∙◌, arith, inl, inr}
use Rattle.std.proofs.lemmas.Bool.{and_parts, eqb-true, leb-true}
use Rattle.ace_model.proofs.Terms.{ac_kind_of, Event, Ac, Header, Transaction, Trace, at_point, is_complete_snoop, is_ace, is_completed, is_message_part, first_waiting, answered_parts, parts_for}
use Rattle.ace_model.proofs.Terms.{has_answered, sync_number, dvm_completes, last_sync, is_sync_completed, completes_next, may_complete}
use Rattle.ace_model.proofs.Terms.{has_every_completion, DvmHolds, IsCompletedAt, IsDoneWith, IsAccepted}
use Rattle.ace_model.proofs.Rules.Keeps.{accepted_keeps}
use Rattle.ace_model.proofs.Trace.Growth.{IsIssued, transaction-issued}
use Rattle.ace_model.proofs.Trace.Places.{issued-earlier}
use Rattle.ace_model.proofs.Dvm.Parts.{parts-cases}
use Rattle.ace_model.proofs.Dvm.Forwarding.{answered-before}
use Rattle.ace_model.proofs.Dvm.Answered.{at_other_ace, complete_part-answered}
use Rattle.ace_model.proofs.Dvm.Syncs.{IsSyncIn, last_sync-is, sync-at}
use Rattle.ace_model.proofs.Dvm.Completed.{sync-completed}
use Rattle.ace_model.proofs.General.Lists.{start-any}
use Rattle.ace_model.proofs.General.Options.{is_some_and-is, is_none_or-at}
use Rattle.ace_model.proofs.General.Booleans.{implies-at}

-- a port that has answered a Sync has answered each part of its port before it
earlier_answered : (past : Trace) (x y : Transaction) (q : ℕ) → IsSyncIn past x → x.port ≢ q → has_answered past x q ≡ true
    → IsIssued past y → is_message_part y ≡ true → y.port ≡ x.port → y.place < x.place → has_answered past y q ≡ true
earlier_answered past x y q s other a there m port lt =
    let low = s.issued.before in
    let at = sync-at past x s.kind in
    elim (parts-cases y q m (λ e. other (sym port ∙ e)) (at_point x.place past) (issued-earlier past x.place y there lt (omega arith))) [
      | inl among ↦ start-any (λ z. nat_eq z.place y.place) (parts_for (at_point x.place past) q) (answered_parts past q) (answered-before past x q (omega arith) a) among
      | inr waits ↦
          let none : first_waiting (at_point x.place past) y.port ≡ None = rw port at.first in
          let bad : Some y ≡ None = sym waits ∙ none in cc
    ]

-- every other ACE port is done with a Sync that may complete
done_with : (h : Header) (past : Trace) (p : ℕ) (x : Transaction) → IsAccepted h past → last_sync past p ≡ Some x → may_complete h past p x ≡ true
    → (q : ℕ) → is_ace h q ≡ true → q ≢ p → IsDoneWith past x q
done_with h past p x a l may q ace other =
    let s = last_sync-is past p x l in
    let parts = and_parts (is_completed past x && not (is_sync_completed past p)) (has_every_completion h past x) may in
    let completed = (and_parts (is_completed past x) _ parts.0).0 in
    let sync = s.0 in
    let part = (sync-at past x sync.kind).part in
    let apart : x.port ≢ q = λ e. other (sym e ∙ s.1) in
    let back : q ≢ x.port = λ e. apart (sym e) in
    let answered = complete_part-answered h x q part ace back past completed a sync.issued.there in
    let counts = at_other_ace h x.port q (λ r. nat_le (sync_number past x r) (dvm_completes past r)) parts.1 ace back in
    let enough = leb-true (sync_number past x q) (dvm_completes past q) counts in
    record {
      sync = answered;
      messages = λ y there m port earlier. earlier_answered past x y q sync apart answered (transaction-issued past there.0 y there.1) m port earlier;
      completed = sync-completed h past x q a sync apart (omega arith);
    }

-- what the rule on AC DVM Complete says of one
completed_at : (h : Header) (past : Trace) (e : Event) → IsAccepted h (e ∷ past) → IsCompletedAt h past e
completed_at h past (Ac q addr snoop) a p c =
    let parts = and_parts (nat_eq p q) _ c in
    let port : q ≡ p = sym (eqb-true p q parts.0) in
    let kind = is_some_and-is (ac_kind_of snoop) is_complete_snoop parts.1 in
    let kept = is_none_or-at (ac_kind_of snoop) (completes_next h past q addr) kind.0 (accepted_keeps h past (Ac q addr snoop) a).rule_39 kind.1 in
    let both = and_parts (nat_eq addr 0) _ (implies-at (is_complete_snoop kind.0) _ kept kind.2) in
    let x = is_some_and-is (last_sync past q) (may_complete h past q) both.1 in
    (x.0, ap (last_sync past) (sym port) ∙ x.1, λ r ace other. done_with h past q x.0 a.0 x.1 x.2 r ace (λ same. other (same ∙ port)))
completed_at h past _ a p c = cc

-- it holds at every event of an accepted trace
pub accepted_dvm_holds : (h : Header) (past : Trace) → IsAccepted h past → DvmHolds h past
accepted_dvm_holds h [] a = tt
accepted_dvm_holds h (e ∷ past) a = (accepted_dvm_holds h past a.0, completed_at h past e a)
