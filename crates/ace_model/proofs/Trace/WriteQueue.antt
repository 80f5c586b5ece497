-- The complete writes of a port that wait for their WK: they are outstanding, each once, and those with data have written memory.
use Rattle.std.proofs.Common.{◌≡◌, ◌⊎◌, ℕ, ◌+◌, ◌≤◌, true, false, not, nat_eq, nat_lt, [], ◌∷◌, length, Option, Some, None, is_none, slice_get, le_refl, refl, sym, ap, ◌∙◌, arith, inl, inr}
use Rattle.std.proofs.lemmas.Bool.{and_parts, or_cases, or_right, not-true, cases_Bool, eqb-true, eq-eqb}
use Rattle.ace_model.proofs.Terms.{LineState, Channel, Read, Write, without, Event, Ar, R, Rk, Aw, B, Wk, Header, Transaction, Trace, is_some_and, has_write_data, is_ace, is_named, issued, ended}
use Rattle.ace_model.proofs.Terms.{write_kind, transaction_of, outstanding, completed, completes, acknowledgements, acknowledged, is_completion, is_complete, is_memory_write, has_memory_write, may_respond}
use Rattle.ace_model.proofs.Terms.{IsAccepted}
use Rattle.ace_model.proofs.Trace.Looks.{at_name, without-other}
use Rattle.ace_model.proofs.Trace.Issued.{outstanding-origin, outstanding-name, outstanding-named}
use Rattle.ace_model.proofs.General.Lists.{slice_get-more}
use Rattle.ace_model.proofs.Rules.Keeps.{accepted_keeps}
use Rattle.ace_model.proofs.Trace.Outstanding.{ends_lite_write, one_name, acknowledged_is, read_issued, write_issued, outstanding_stays, ends_lite}
use Rattle.ace_model.proofs.General.Options.{some_if-is, Some-injective, is_some_and-is}
use Rattle.ace_model.proofs.General.Booleans.{above_count, implies-at}

-- a complete write that waits for its WK
abbrev pub IsWaiting : Header → Trace → ℕ → ℕ → Type 0
IsWaiting h past p i = (x : Transaction) × (outstanding h past p Write i ≡ Some x) × (is_complete past p Write i ≡ true)

-- the writes of the port that wait: each is outstanding, and none waits twice
pub record WriteQueue (h : Header) (past : Trace) (p : ℕ) : Type 0 where
  pub stands : (n i : ℕ) → acknowledgements past p Write ≤ n → slice_get (completed past p Write) n ≡ Some i → IsWaiting h past p i
  pub distinct : (m n i : ℕ) → acknowledgements past p Write ≤ m → acknowledgements past p Write ≤ n
      → slice_get (completed past p Write) m ≡ Some i → slice_get (completed past p Write) n ≡ Some i → m ≡ n

module _ (h : Header) (past : Trace) where
  -- what the rule on responses says of the write that the event names
  record Responds (q j : ℕ) : Type 0 where
    one : Transaction
    out : outstanding h past q Write j ≡ Some one
    unanswered : is_complete past q Write j ≡ false
    written : is_some_and (write_kind one) has_write_data ≡ true → has_memory_write past q Write j ≡ true

  responds : (q j resp : ℕ) → IsAccepted h (B q j resp ∷ past) → Responds q j
  responds q j resp a =
      let o = is_some_and-is (outstanding h past q Write j) (may_respond past) (and_parts (nat_eq resp 0) _ (accepted_keeps h past (B q j resp) a).rule_26).1 in
      let x = o.0 in
      let name = outstanding-name h past q Write j x o.1 in
      let parts = and_parts (not (is_complete past x.port x.chan x.id)) _ o.2 in
      record {
        one = x;
        out = o.1;
        unanswered = sym (at_name (is_complete past) x q Write j name) ∙ not-true _ parts.0;
        written = λ t. sym (at_name (has_memory_write past) x q Write j name) ∙ implies-at (is_some_and (write_kind x) has_write_data) _ parts.1 t;
      }

  -- another transaction is issued
  waiting_issued : (e : Event) (y : Transaction) (p : ℕ) → issued (length past) e ≡ Some y → ended h past e ≡ None
      → is_none (outstanding h past y.port y.chan y.id) ≡ true → (i : ℕ) → IsWaiting h past p i → IsWaiting h (e ∷ past) p i
  waiting_issued e y p new lives free i w =
      let s = outstanding_stays h past y p Write i w.0 free w.1 in
      (w.0, rw (new, lives) s.1, or_right (is_completion e p Write i) _ (rw (new, s.0) w.2))

  -- a read ends, which is no write
  waiting_read : (read : Option Transaction) (q p : ℕ) → ((z : Transaction) → read ≡ Some z → (j : ℕ) × (transaction_of past q Read j ≡ Some z))
      → (i : ℕ) → IsWaiting h past p i → (x : Transaction) × (without read (outstanding h past p Write i) ≡ Some x) × (is_complete past p Write i ≡ true)
  waiting_read read q p reads i w =
      let stays = without-other read (outstanding h past p Write i) w.0 w.1 (λ z is same.
      let r = reads z is in
      let chan = (one_name past q p Read Write r.0 i z w.0 r.1 (outstanding-named h past p Write i w.0 w.1) same).chan in cc) in
      (w.0, stays, w.2)

  waiting_b : (q j resp p i : ℕ) (x : Transaction) → is_ace h p ≡ true → outstanding h past p Write i ≡ Some x
      → outstanding h (B q j resp ∷ past) p Write i ≡ Some x
  waiting_b q j resp p i x ace o =
      without-other (ended h past (B q j resp)) (outstanding h past p Write i) x o (λ z is same.
      let e = ends_lite_write h past q j resp z is in
      let name = one_name past q p Write Write j i z x e.1 (outstanding-named h past p Write i x o) same in
      let bad : is_ace h q ≡ true = ap (is_ace h) name.port ∙ ace in cc)

  -- an identifier in the queue after a response was there, or is that of the response
  record IsNewest (p q j n i : ℕ) : Type 0 where
    at : n ≡ length (completed past p Write)
    same_id : j ≡ i
    same_port : p ≡ q

  entry_b : (q j resp p n i : ℕ) → slice_get (completed (B q j resp ∷ past) p Write) n ≡ Some i
      → (slice_get (completed past p Write) n ≡ Some i) ⊎ IsNewest p q j n i
  entry_b q j resp p n i e =
      elim (slice_get-more (completed past p Write) (completes (B q j resp) p Write) n i e) [
        | inl old ↦ inl old
        | inr new ↦
            let s = some_if-is (nat_eq p q) j i new.1 in
            inr (record { at = new.0; same_id = s.1; same_port = eqb-true p q s.0 })
      ]

  -- the write of the response did not wait
  not_waiting : (q j n i p : ℕ) → WriteQueue h past p → Responds q j → acknowledgements past p Write ≤ n
      → slice_get (completed past p Write) n ≡ Some i → p ≡ q → j ≡ i → ⊥
  not_waiting q j n i p f m low e pq ji =
      let complete = (f.stands n i low e).2 in
      let bad : is_complete past q Write j ≡ true = rw (← pq, ji) complete in
      let none = m.unanswered in cc

  queue_b : (q j resp p : ℕ) → is_ace h p ≡ true → Responds q j → WriteQueue h past p → WriteQueue h (B q j resp ∷ past) p
  queue_b q j resp p ace m f = record {
    stands = λ n i low e. elim (entry_b q j resp p n i e) [
      | inl old ↦
          let w = f.stands n i low old in
          (w.0, waiting_b q j resp p i w.0 ace w.1, or_right (is_completion (B q j resp) p Write i) (is_complete past p Write i) w.2)
      | inr new ↦ rw (new.same_port, ← new.same_id) (m.one, waiting_b q j resp q j m.one (rw (← new.same_port) ace) m.out, done)
    ];
    distinct = λ m' n i low_m low_n em en. elim (entry_b q j resp p m' i em) [
      | inl old_m ↦ elim (entry_b q j resp p n i en) [
        | inl old_n ↦ f.distinct m' n i low_m low_n old_m old_n
        | inr w ↦ absurd (not_waiting q j m' i p f m low_m old_m w.same_port w.same_id)
      ]
      | inr v ↦ elim (entry_b q j resp p n i en) [
        | inl old_n ↦ absurd (not_waiting q j n i p f m low_n old_n v.same_port v.same_id)
        | inr w ↦ v.at ∙ sym w.at
      ]
    ];
  }
    where
      done : is_complete (B q j resp ∷ past) q Write j ≡ true
      done = rw (eq-eqb q q (refl {a = q})) (rw (eq-eqb j j (refl {a = j})) refl)

  queue_wk : (q : ℕ) (st : LineState) (p : ℕ) → WriteQueue h past p → WriteQueue h (Wk q st ∷ past) p
  queue_wk q st p f = record {
    stands = λ n i low e.
        let w = f.stands n i (below n low) e in
        let stays = without-other (acknowledged past q Write) (outstanding h past p Write i) w.0 w.1 (λ z is same.
        let a = acknowledged_is past q Write z is in
        let name = one_name past q p Write Write a.id i z w.0 a.named (outstanding-named h past p Write i w.0 w.1) same in
        let next : slice_get (completed past p Write) (acknowledgements past p Write) ≡ Some i = rw (← name.port) (a.next ∙ ap Some name.id) in
        let at = f.distinct (acknowledgements past p Write) n i (le_refl (acknowledgements past p Write)) (below n low) next e in
        let above : acknowledgements past p Write + 1 ≤ n = rw (eq-eqb p q (sym name.port)) at low in
        absurd (omega arith)) in
        (w.0, stays, w.2);
    distinct = λ m n i low_m low_n em en. f.distinct m n i (below m low_m) (below n low_n) em en;
  }
    where
      below : (n : ℕ) → acknowledgements (Wk q st ∷ past) p Write ≤ n → acknowledgements past p Write ≤ n
      below n low = above_count (nat_eq p q) (acknowledgements past p Write) n low

  -- an event that neither adds to the queue nor takes from it, after which each that waits still does
  kept : (e : Event) (p : ℕ) → WriteQueue h past p → ((i : ℕ) → IsWaiting h past p i → IsWaiting h (e ∷ past) p i)
      → completed (e ∷ past) p Write ≡ completed past p Write → acknowledgements (e ∷ past) p Write ≡ acknowledgements past p Write → WriteQueue h (e ∷ past) p
  kept e p f stays same count = record {
    stands = λ n i low is. stays i (f.stands n i (rw count at low) (rw same at is));
    distinct = λ m n i low_m low_n is_m is_n. f.distinct m n i (rw count at low_m) (rw count at low_n) (rw same at is_m) (rw same at is_n);
  }

-- at each point of an accepted trace
pub write_queue : (h : Header) (past : Trace) → IsAccepted h past → (p : ℕ) → is_ace h p ≡ true → WriteQueue h past p
write_queue h [] a p ace = record { stands = λ n i low e. cc; distinct = λ m n i low_m low_n em en. cc }
write_queue h (Ar q j addr snoop dom bar lock ∷ past) a p ace =
    let e = Ar q j addr snoop dom bar lock in
    let free = (accepted_keeps h past e a).rule_4 in
    kept h past e p (write_queue h past a.0 p ace) (waiting_issued h past e (read_issued past q j addr snoop dom bar lock) p refl refl free) refl refl
write_queue h (Aw q j addr snoop dom bar ∷ past) a p ace =
    let e = Aw q j addr snoop dom bar in
    let free = (accepted_keeps h past e a).rule_4 in
    kept h past e p (write_queue h past a.0 p ace) (waiting_issued h past e (write_issued past q j addr snoop dom bar) p refl refl free) refl refl
write_queue h (R q j resp last word ∷ past) a p ace =
    let e = R q j resp last word in
    kept h past e p (write_queue h past a.0 p ace) (waiting_read h past (ended h past e) q p (λ z is. (j, (ends_lite h past q j resp last word z is).1))) refl refl
write_queue h (Rk q st ∷ past) a p ace =
    kept h past (Rk q st) p (write_queue h past a.0 p ace)
    (waiting_read h past (acknowledged past q Read) q p (λ z is. let n = acknowledged_is past q Read z is in (n.id, n.named))) refl refl
write_queue h (B q j resp ∷ past) a p ace = queue_b h past q j resp p ace (responds h past q j resp a) (write_queue h past a.0 p ace)
write_queue h (Wk q st ∷ past) a p ace = queue_wk h past q st p (write_queue h past a.0 p ace)
write_queue h (_ ∷ past) a p ace = let f = write_queue h past a.0 p ace in record { stands = f.stands; distinct = f.distinct }

-- an event that issues a transaction completes none
pub issue_completes : (n : ℕ) (e : Event) (x : Transaction) (p : ℕ) (c : Channel) (i : ℕ) → issued n e ≡ Some x → is_completion e p c i ≡ false
issue_completes n (Ar q j addr snoop dom bar lock) x p c i s = refl
issue_completes n (Aw q j addr snoop dom bar) x p c i s = refl
issue_completes n e x p c i s = cc

-- a response that completes the write comes after its M
completion_written : (h : Header) (past : Trace) (e : Event) → IsAccepted h (e ∷ past) → (p i : ℕ) (x : Transaction) → outstanding h past p Write i ≡ Some x
    → is_completion e p Write i ≡ true → is_some_and (write_kind x) has_write_data ≡ true → has_memory_write past p Write i ≡ true
completion_written h past (B q j resp) a p i x o c sends =
    elim (cases_Bool (nat_eq p q)) [
      | inr other ↦ let bad : false ≡ true = rw other at c in cc
      | inl t ↦
          let port = eqb-true p q t in
          let id : i ≡ j = eqb-true i j (rw t at c) in
          let m = responds h past q j resp a in
          let one : m.one ≡ x = Some-injective m.one x (sym m.out ∙ (rw (port, id) at o)) in
          rw (port, id) (m.written (rw one sends))
    ]
completion_written h past e a p i x o c sends = cc

-- a complete write with data that is outstanding has written memory
pub done_write : (h : Header) (past : Trace) → IsAccepted h past → (p i : ℕ) (x : Transaction) → outstanding h past p Write i ≡ Some x
    → is_complete past p Write i ≡ true → is_some_and (write_kind x) has_write_data ≡ true → has_memory_write past p Write i ≡ true
done_write h [] a p i x o c sends = cc
done_write h (e ∷ past) a p i x o c sends =
    elim (outstanding-origin h past e p Write i x o) [
      | inl new ↦
          let none = issue_completes (length past) e x p Write i new.0 in
          let bad : false ≡ true = rw (new.0, new.1, none) at c in cc
      | inr old ↦
          let before : has_memory_write past p Write i ≡ true = elim (or_cases (is_completion e p Write i) _ c) [
            | inl now ↦ completion_written h past e a p i x old.was now sends
            | inr earlier ↦ done_write h past a.0 p i x old.was (and_parts (not (is_named (issued (length past) e) p Write i)) _ earlier).1 sends
          ] in
          or_right (is_memory_write e p Write i) _ (rw old.other before)
    ]

-- The write that a WK of the port belongs to.
pub record EndsWrite (h : Header) (past : Trace) (q : ℕ) (z : Transaction) : Type 0 where
  pub id : ℕ
  pub out : outstanding h past q Write id ≡ Some z
  pub port : z.port ≡ q
  pub chan : z.chan ≡ Write
  pub is_id : z.id ≡ id
  pub written : is_some_and (write_kind z) has_write_data ≡ true → has_memory_write past z.port z.chan z.id ≡ true

module _ (h : Header) (past : Trace) (q : ℕ) where
  ends_write : (i : ℕ) (z : Transaction) → outstanding h past q Write i ≡ Some z
      → (is_some_and (write_kind z) has_write_data ≡ true → has_memory_write past q Write i ≡ true) → EndsWrite h past q z
  ends_write i z out written =
      let name = outstanding-name h past q Write i z out in
      record {
        id = i;
        out = out;
        port = name.port;
        chan = name.chan;
        is_id = name.id;
        written = λ sends. at_name (has_memory_write past) z q Write i name ∙ written sends;
      }

  pub ends_write_of : (st : LineState) → IsAccepted h (Wk q st ∷ past) → (z : Transaction) → acknowledged past q Write ≡ Some z → EndsWrite h past q z
  ends_write_of st a z is =
      let ace = (and_parts (nat_lt q h.ports) (is_ace h q) (accepted_keeps h past (Wk q st) a).rule_1).1 in
      let next = acknowledged_is past q Write z is in
      let w = (write_queue h past a.0 q ace).stands (acknowledgements past q Write) next.id (le_refl (acknowledgements past q Write)) next.next in
      let one : w.0 ≡ z = Some-injective w.0 z (sym (outstanding-named h past q Write next.id w.0 w.1) ∙ next.named) in
      let out : outstanding h past q Write next.id ≡ Some z = w.1 ∙ ap Some one in
      ends_write next.id z out (done_write h past a.0 q next.id z out w.2)

  -- a response ends a write of a port that is no ACE port, which has written memory
  pub ends_lite_written : (j resp : ℕ) → IsAccepted h (B q j resp ∷ past) → (z : Transaction) → ended h past (B q j resp) ≡ Some z
      → EndsWrite h past q z
  ends_lite_written j resp a z is =
      let m = responds h past q j resp a in
      let named = (ends_lite_write h past q j resp z is).1 in
      let one : m.one ≡ z = Some-injective m.one z (sym (outstanding-named h past q Write j m.one m.out) ∙ named) in
      ends_write j z (m.out ∙ ap Some one) (λ sends. m.written (rw one sends))
