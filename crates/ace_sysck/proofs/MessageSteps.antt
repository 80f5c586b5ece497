-- The messages that the ports issue, event by event.
use Rattle.std.proofs.Common.{◌≡◌, ◌⊎◌, ℕ, ◌<◌, Bool, true, false, not, ◌&&◌, nat_eq, if◌then◌else◌, [], ◌∷◌, length, get_or, replicate, slice_set, Option, Some, None, is_some, refl, sym, ap, subst, ◌∙◌, inl, inr, length-set}
use Rattle.std.proofs.lemmas.List.{length-replicate}
use Rattle.std.proofs.lemmas.Bool.{cases_Bool, and_right, eq-eqb, ne_eqb}
use Rattle.ace_sysck.proofs.Terms.{Transaction, Header, Event, Ac, Trace, newer, is_some_and, issued, is_completed, is_message_part, is_sync, is_sync_word, first_waiting, part_in, waits_after, last_sync, sync_in, is_sync_completed, is_part_in_order, IsAccepted, is_complete_snoop, ac_kind_of, completes_sync, Target, Recording, after, target_of, PortMessages, Messages, begun_in, completed_in, MessagesStand, PortMessagesStand, silent, is_new_sync, part_issued, part_completed, told_complete, is_in_order}
use Rattle.ace_model.proofs.Dvm.Syncs.{last_sync-is}
use Rattle.ace_model.proofs.Trace.Growth.{at_point-end}
use Rattle.ace_model.proofs.Trace.Issued.{issued_at, issued-place}
use Rattle.ace_model.proofs.General.Options.{Some-injective}
use Rattle.ace_sysck.proofs.Tables.{entries_set, repeated}
use Rattle.ace_sysck.proofs.Steps.{port_within}
use Rattle.ace_sysck.proofs.EventLaws.{responding, responds-at, completes-at, completes-none, begun-is}
use Rattle.ace_sysck.proofs.BarrierSteps.{hits, new-incomplete, issue-hits, answers-unissued, issuing-port}

-- what is kept after the empty trace
pub messages_fresh : (h : Header) (s : Messages) → s.ports.items ≡ replicate h.ports silent → MessagesStand (record { header = h; past = [] }) s
messages_fresh h s is = record {
  size = ap length is ∙ length-replicate h.ports silent;
  ports = λ p. subst (PortMessagesStand [] p) (sym (ap (λ xs. get_or xs p silent) is ∙ repeated h.ports p silent)) (fresh p);
}
  where
    fresh : (p : ℕ) → PortMessagesStand [] p silent
    fresh p = record { first = refl; sync = refl; sync_done = λ x is. cc; sync_completed = refl }

-- K9's part on messages
pub in_order-is : (past : Trace) (x : Transaction) (m : PortMessages) → PortMessagesStand past x.port m
    → is_part_in_order past x (first_waiting past x.port) ≡ is_in_order m x
in_order-is past x m s = sym (go m.first refl) ∙ refl
  where
    go : (o : Option Transaction) → m.first ≡ o → is_in_order m x ≡ is_part_in_order past x (first_waiting past x.port)
    go (Some first) is = rw (← s.first, is) refl
    go None is = rw (← s.first, is, s.sync, s.sync_completed) refl

-- an event that issues no part of the port, completes not its Sync, and isn't an AC DVM Complete to it
pub stays : (past : Trace) (e : Event) (p : ℕ) (m : PortMessages) → part_in (issued (length past) e) p ≡ None → sync_in past (issued (length past) e) p ≡ None
    → completes_sync e p ≡ false → ((x : Transaction) → last_sync past p ≡ Some x → hits past e x ≡ false) → PortMessagesStand past p m → PortMessagesStand (e ∷ past) p m
stays past e p m no_part no_sync no_ac no_hit s = record {
  first = s.first ∙ sym (ap (waits_after (first_waiting past p)) no_part);
  sync = s.sync ∙ sym (ap (λ o. newer o (last_sync past p)) no_sync);
  sync_done = λ x is.
      let was : last_sync past p ≡ Some x = sym (ap (λ o. newer o (last_sync past p)) no_sync) ∙ is in
      rw (no_hit x was) (s.sync_done x was);
  sync_completed = s.sync_completed ∙ sym (rw (no_ac, no_sync) refl);
}

-- a Sync that is issued after the trace
sync-now : (past : Trace) (x : Transaction) (m : PortMessages) → PortMessagesStand past x.port m → x.place ≡ length past → is_message_part x ≡ true
    → sync_in past (Some x) x.port ≡ (if is_new_sync m x then Some x else None)
sync-now past x m s at part = rw (part, eq-eqb x.port x.port refl, at_point-end past x.place at, ← s.first) (same (is_sync_word x.addr && not (is_some m.first)))
  where
    same : (b : Bool) → (if b && true then Some x else None) ≡ (if b then Some x else None)
    same true = refl
    same false = refl

issued_part : (past : Trace) (e : Event) (x : Transaction) (m : PortMessages) → issued (length past) e ≡ Some x → is_message_part x ≡ true → completes_sync e x.port ≡ false
    → PortMessagesStand past x.port m → PortMessagesStand (e ∷ past) x.port (part_issued m x)
issued_part past e x m new part no_ac s = record {
  first = ap (λ o. waits_after o (Some x)) s.first ∙ sym (rw (new, part, eq-eqb x.port x.port refl) refl);
  sync = by (cases_Bool (is_new_sync m x));
  sync_done = λ y is. done y is (cases_Bool (is_new_sync m x));
  sync_completed = completed (cases_Bool (is_new_sync m x));
}
  where
    p : ℕ
    p = x.port

    now : sync_in past (issued (length past) e) p ≡ (if is_new_sync m x then Some x else None)
    now = ap (λ o. sync_in past o p) new ∙ sync-now past x m s (issued-place (length past) e x new) part

    by : (is_new_sync m x ≡ true) ⊎ (is_new_sync m x ≡ false) → (if is_new_sync m x then Some x else m.sync) ≡ newer (sync_in past (issued (length past) e) p) (last_sync past p)
    by (inl t) = rw (now, t) refl
    by (inr f) = rw (now, f) s.sync

    done : (y : Transaction) → newer (sync_in past (issued (length past) e) p) (last_sync past p) ≡ Some y → (is_new_sync m x ≡ true) ⊎ (is_new_sync m x ≡ false)
        → (not (is_new_sync m x) && m.sync_done) ≡ is_completed (e ∷ past) y
    done y is (inl t) =
        let one : x ≡ y = Some-injective x y (sym (ap (λ o. newer o (last_sync past p)) (now ∙ ap (λ b. if b then Some x else None) t)) ∙ is) in
        rw (t, ← one, issue-hits past e x x new, new-incomplete past x (issued-place (length past) e x new)) refl
    done y is (inr f) =
        let was : last_sync past p ≡ Some y = sym (ap (λ o. newer o (last_sync past p)) (now ∙ ap (λ b. if b then Some x else None) f)) ∙ is in
        rw (f, issue-hits past e x y new) (s.sync_done y was)

    completed : (is_new_sync m x ≡ true) ⊎ (is_new_sync m x ≡ false) → (not (is_new_sync m x) && m.sync_completed) ≡ is_sync_completed (e ∷ past) p
    completed (inl t) = rw (t, no_ac, now, t) refl
    completed (inr f) = rw (f, no_ac, now, f) s.sync_completed

-- a transaction of the port is complete
completed_part : (past : Trace) (e : Event) (x : Transaction) (p : ℕ) (m : PortMessages) → issued (length past) e ≡ None → completes_sync e p ≡ false
    → ((y : Transaction) → hits past e y ≡ nat_eq x.place y.place) → PortMessagesStand past p m → PortMessagesStand (e ∷ past) p (part_completed m x.place)
completed_part past e x p m none no_ac hit s = record {
  first = s.first ∙ sym (rw none refl);
  sync = s.sync ∙ sym (rw none refl);
  sync_done = λ y is.
      let was : last_sync past p ≡ Some y = sym (ap (λ o. newer (sync_in past o p) (last_sync past p)) none) ∙ is in
      rw (hit y, ← s.sync_done y was, s.sync, was) refl;
  sync_completed = s.sync_completed ∙ sym (rw (no_ac, none) refl);
}

told : (past : Trace) (e : Event) (p : ℕ) (m : PortMessages) → issued (length past) e ≡ None → completes_sync e p ≡ true → ((y : Transaction) → hits past e y ≡ false)
    → PortMessagesStand past p m → PortMessagesStand (e ∷ past) p (told_complete m)
told past e p m none ac no_hit s = record {
  first = s.first ∙ sym (rw none refl);
  sync = s.sync ∙ sym (rw none refl);
  sync_done = λ y is.
      let was : last_sync past p ≡ Some y = sym (ap (λ o. newer (sync_in past o p) (last_sync past p)) none) ∙ is in
      rw (no_hit y) (s.sync_done y was);
  sync_completed = sym (rw ac refl);
}

-- a list in which one port's is set
messages_set : (r : Recording) (s n : Messages) (e : Event) (q : ℕ) (v : PortMessages) → MessagesStand r s → q < r.header.ports → n.ports.items ≡ slice_set s.ports.items q v
    → PortMessagesStand (e ∷ r.past) q v → ((p : ℕ) (m : PortMessages) → (q ≡ p → ⊥) → PortMessagesStand r.past p m → PortMessagesStand (e ∷ r.past) p m) → MessagesStand (after r e) n
messages_set r s n e q v stands within items new others = record {
  size = ap length items ∙ length-set s.ports.items q v ∙ stands.size;
  ports = λ p.
      entries_set (PortMessagesStand r.past) (PortMessagesStand (e ∷ r.past)) s.ports.items n.ports.items q r.header.ports v silent stands.size within items new others p (stands.ports p);
}

-- an event that issues something is no AC
issues-no_ac : (past : Trace) (e : Event) (x : Transaction) (p : ℕ) → issued (length past) e ≡ Some x → completes_sync e p ≡ false
issues-no_ac past (Ac q addr snoop) x p new = cc
issues-no_ac past e x p new = refl

pub answers-no_ac : (h : Header) (past : Trace) (e : Event) (x : Transaction) (p : ℕ) → responding h past e ≡ Some x → completes_sync e p ≡ false
answers-no_ac h past (Ac q addr snoop) x p a = cc
answers-no_ac h past e x p a = refl

-- a transaction that is no part of the port
unpart : (past : Trace) (x : Transaction) (p : ℕ) → (is_message_part x && nat_eq x.port p) ≡ false → (part_in (Some x) p ≡ None) × (sync_in past (Some x) p ≡ None)
unpart past x p other = (
  rw other refl,
  elim (cases_Bool (is_message_part x)) [
    | inl t ↦ let f : nat_eq x.port p ≡ false = rw t at other in rw f (none (is_sync past x))
    | inr f ↦ rw f refl
  ],
)
  where
    none : (b : Bool) → (if b && false then Some x else None) ≡ None
    none true = refl
    none false = refl

pub messages_part : (r : Recording) (s n : Messages) (e : Event) (t : Target) (x : Transaction) → IsAccepted r.header (e ∷ r.past) → t ≡ target_of r.header r.past e → begun_in e t ≡ Some x
    → is_message_part x ≡ true → MessagesStand r s → n.ports.items ≡ slice_set s.ports.items x.port (part_issued (get_or s.ports.items x.port silent) x) → MessagesStand (after r e) n
messages_part r s n e t x accepted own begun part stands items =
    let new : issued (length r.past) e ≡ Some x = sym (begun-is r.header r.past e t own) ∙ begun in
    let m = get_or s.ports.items x.port silent in
    messages_set r s n e x.port (part_issued m x) stands (port_within r.header r.past e x.port accepted (issuing-port r.past e x new)) items
    (issued_part r.past e x m new part (issues-no_ac r.past e x x.port new) (stands.ports x.port))
    (λ p k off.
    let u = unpart r.past x p (rw part (ne_eqb x.port p off)) in
    stays r.past e p k (ap (λ o. part_in o p) new ∙ u.0) (ap (λ o. sync_in r.past o p) new ∙ u.1) (issues-no_ac r.past e x p new) (λ y is. issue-hits r.past e x y new))

pub messages_other_issue : (r : Recording) (s : Messages) (e : Event) (t : Target) (x : Transaction) → t ≡ target_of r.header r.past e → begun_in e t ≡ Some x
    → is_message_part x ≡ false → MessagesStand r s → MessagesStand (after r e) s
messages_other_issue r s e t x own begun plain stands =
    let new : issued (length r.past) e ≡ Some x = sym (begun-is r.header r.past e t own) ∙ begun in record {
      size = stands.size;
      ports = λ p.
          let u = unpart r.past x p (rw plain refl) in
          stays r.past e p (get_or s.ports.items p silent) (ap (λ o. part_in o p) new ∙ u.0) (ap (λ o. sync_in r.past o p) new ∙ u.1) (issues-no_ac r.past e x p new) (λ y is. issue-hits r.past e x y new) (stands.ports p);
    }

pub messages_completed : (r : Recording) (s n : Messages) (e : Event) (t : Target) (x : Transaction) → IsAccepted r.header (e ∷ r.past) → t ≡ target_of r.header r.past e → completed_in e t ≡ Some x
    → MessagesStand r s → n.ports.items ≡ slice_set s.ports.items x.port (part_completed (get_or s.ports.items x.port silent) x.place) → MessagesStand (after r e) n
messages_completed r s n e t x accepted own completed stands items =
    let d = completes-at r.header r.past e t x own completed in
    let k = responds-at r.header r.past e x d.answers in
    let none = answers-unissued r.header r.past e x d.answers in
    let m = get_or s.ports.items x.port silent in
    let hit : (y : Transaction) → hits r.past e y ≡ nat_eq x.place y.place = λ y. rw (d.completes, k.served) refl in
    messages_set r s n e x.port (part_completed m x.place) stands (port_within r.header r.past e x.port accepted k.port) items
    (completed_part r.past e x x.port m none (answers-no_ac r.header r.past e x x.port d.answers) hit (stands.ports x.port))
    (λ p b off. stays r.past e p b (ap (λ o. part_in o p) none) (ap (λ o. sync_in r.past o p) none) (answers-no_ac r.header r.past e x p d.answers)
    (λ y is.
    let sync = last_sync-is r.past p y is in
    hit y ∙ ne_eqb x.place y.place (λ at.
    let one : x ≡ y = Some-injective x y (sym k.there.there ∙ ap (issued_at r.past) at ∙ sync.0.issued.there) in
    off (ap (λ (z : Transaction). z.port) one ∙ sync.1))))

pub messages_told : (r : Recording) (s n : Messages) (q addr snoop : ℕ) → IsAccepted r.header (Ac q addr snoop ∷ r.past) → is_some_and (ac_kind_of snoop) is_complete_snoop ≡ true
    → MessagesStand r s → n.ports.items ≡ slice_set s.ports.items q (told_complete (get_or s.ports.items q silent)) → MessagesStand (after r (Ac q addr snoop)) n
messages_told r s n q addr snoop accepted complete stands items =
    let e : Event = Ac q addr snoop in
    messages_set r s n e q (told_complete (get_or s.ports.items q silent)) stands (port_within r.header r.past e q accepted refl) items
    (told r.past e q (get_or s.ports.items q silent) refl (rw (eq-eqb q q refl) complete) (λ y. refl) (stands.ports q))
    (λ p b off. stays r.past e p b refl refl (rw (ne_eqb p q (λ i. off (sym i))) refl) (λ y is. refl))

pub messages_untold : (r : Recording) (s : Messages) (q addr snoop : ℕ) → is_some_and (ac_kind_of snoop) is_complete_snoop ≡ false
    → MessagesStand r s → MessagesStand (after r (Ac q addr snoop)) s
messages_untold r s q addr snoop other stands = record {
  size = stands.size;
  ports = λ p. stays r.past (Ac q addr snoop) p (get_or s.ports.items p silent) refl refl (rw other (and_right (nat_eq p q) false refl)) (λ y is. refl) (stands.ports p);
}

pub messages_stay : (r : Recording) (s : Messages) (e : Event) (t : Target) → IsAccepted r.header (e ∷ r.past) → t ≡ target_of r.header r.past e
    → begun_in e t ≡ None → completed_in e t ≡ None → ((p : ℕ) → completes_sync e p ≡ false) → MessagesStand r s → MessagesStand (after r e) s
messages_stay r s e t accepted own begun completed no_ac stands =
    let none : issued (length r.past) e ≡ None = sym (begun-is r.header r.past e t own) ∙ begun in record {
      size = stands.size;
      ports = λ p. stays r.past e p (get_or s.ports.items p silent) (ap (λ o. part_in o p) none) (ap (λ o. sync_in r.past o p) none) (no_ac p)
          (λ y is. completes-none r.header r.past e t y accepted own completed) (stands.ports p);
    }
