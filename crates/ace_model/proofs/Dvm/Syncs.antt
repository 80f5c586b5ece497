-- The Syncs of a trace: each has one part, which is forwarded next after what was issued before it.
use Rattle.std.proofs.Common.{◌≡◌, ◌≢◌, ℕ, true, not, ◌&&◌, nat_eq, [], ◌∷◌, ◌++◌, length, Option, Some, None, is_some, refl, arith, inl, inr}
use Rattle.std.proofs.lemmas.Bool.{and_parts, eqb-true, ne_eqb}
use Rattle.ace_model.proofs.Terms.{Header, Transaction, Trace, at_point, issued, is_message_part, is_message_word, is_sync, is_sync_word, has_second, first_waiting, parts_in, parts_for, sync_in, last_sync}
use Rattle.ace_model.proofs.Terms.{begins_message, begins_well, is_part_in_order, IsAccepted}
use Rattle.ace_model.proofs.Rules.Keeps.{accepted_keeps}
use Rattle.ace_model.proofs.Trace.Issued.{issued-place}
use Rattle.ace_model.proofs.Trace.Growth.{IsIssued, issued-new, issued-old, issued-cases, at_point-before}
use Rattle.ace_model.proofs.Trace.Places.{at_point-last}
use Rattle.ace_model.proofs.General.Lists.{IsStart, start-self, start-trans, start-append}
use Rattle.ace_model.proofs.General.Options.{option_filter-is, newer-cases, is_none_or-at}
use Rattle.ace_model.proofs.General.Booleans.{implies-at, not_both}

-- It is a Sync of the trace.
pub record IsSyncIn (past : Trace) (x : Transaction) : Type 0 where
  pub issued : IsIssued past x
  pub kind : is_sync past x ≡ true

-- the last Sync of a port is one, and of the port
pub last_sync-is : (past : Trace) (p : ℕ) (x : Transaction) → last_sync past p ≡ Some x → IsSyncIn past x × (x.port ≡ p)
last_sync-is [] p x l = cc
last_sync-is (e ∷ past) p x l =
    elim (newer-cases (sync_in past (issued (length past) e) p) (last_sync past p) x l) [
      | inl new ↦
          let s = option_filter-is (λ y. is_sync past y && nat_eq y.port p) (issued (length past) e) x new in
          let parts = and_parts (is_sync past x) (nat_eq x.port p) s.1 in
          let i = issued-new e past x s.0 in
          let low = i.before in
          (record { issued = i; kind = rw (at_point-before e past x.place (omega arith)) parts.0 }, eqb-true x.port p parts.1)
      | inr old ↦
          let s = last_sync-is past p x old in
          let low = s.0.issued.before in
          (record { issued = issued-old e past x s.0.issued; kind = rw (at_point-before e past x.place (omega arith)) s.0.kind }, s.1)
    ]

-- It is a Sync where it is issued at this point: the port's last part waits for no second.
pub record IsSyncAt (past : Trace) (x : Transaction) : Type 0 where
  pub part : is_message_part x ≡ true
  pub word : is_sync_word x.addr ≡ true
  pub first : first_waiting past x.port ≡ None

pub sync-at : (past : Trace) (x : Transaction) → is_sync past x ≡ true → IsSyncAt (at_point x.place past) x
sync-at past x sync =
    let parts = and_parts (is_message_part x && is_sync_word x.addr) _ sync in
    let both = and_parts (is_message_part x) (is_sync_word x.addr) parts.0 in
    record { part = both.0; word = both.1; first = not_some (first_waiting (at_point x.place past) x.port) parts.1 }
  where
    not_some : (o : Option Transaction) → not (is_some o) ≡ true → o ≡ None
    not_some None e = refl
    not_some (Some y) e = cc

-- by the rule on messages it has one part
sync-alone : (past : Trace) (x : Transaction) (q : ℕ) → IsSyncAt past x → x.port ≢ q → is_part_in_order past x (first_waiting past x.port) ≡ true
    → parts_in past (Some x) q ≡ x ∷ []
sync-alone past x q s other order =
    let begins : begins_message past x ≡ true = rw s.first at order in
    let word = (and_parts (is_message_word x.addr) _ begins).0 in
    rw (s.part, ne_eqb x.port q other, s.first, not_both _ (is_sync_word x.addr) (has_second x.addr) word s.word) refl

-- so it is for another port next after the parts that were for that port when it was issued
pub sync-next : (h : Header) (past : Trace) (x : Transaction) (q : ℕ) → IsAccepted h past → IsSyncIn past x → x.port ≢ q
    → IsStart (parts_for (at_point x.place past) q ++ x ∷ []) (parts_for past q)
sync-next h [] x q a s other = let low = s.issued.before in absurd (omega arith)
sync-next h (e ∷ past) x q a s other =
    elim (issued-cases e past x s.issued) [
      | inl new ↦
          let now = at_point-last e past x.place (issued-place (length past) e x new) in
          let at : IsSyncAt past x = rw now at (sync-at (e ∷ past) x s.kind) in
          let begins = is_none_or-at (issued (length past) e) (begins_well past) x (accepted_keeps h past e a).rule_9 new in
          let order = implies-at (is_message_part x) _ (and_parts _ _ (and_parts _ _ begins).0).1 at.part in
          rw (now, new, sync-alone past x q at other order) (start-self (parts_for past q ++ x ∷ []))
      | inr old ↦
          let low = old.before in
          let before = at_point-before e past x.place (omega arith) in
          rw before (start-trans (parts_for (at_point x.place past) q ++ x ∷ []) (parts_for past q) (parts_for (e ∷ past) q)
          (sync-next h past x q a.0 (record { issued = old; kind = rw before at s.kind }) other) (start-append (parts_for past q) (parts_in past (issued (length past) e) q)))
    ]
