-- R: a transfer of a read.
use Rattle.std.proofs.Common.{◌≡◌, ◌⊎◌, ◌==◌, ℕ, ◌+◌, ◌<◌, ◌≤◌, Bool, true, false, ◌&&◌, nat_eq, nat_lt, ◌∷◌, Some, None, length, slice_get, refl, sym, ap, ◌∙◌, arith, inl, inr}
use Rattle.std.proofs.Math.Bool.{and-false}
use Rattle.std.proofs.lemmas.Bool.{and_parts, and_from, cases_Bool, cases_eq, eqb-true, eq-eqb, ne_eqb, ltb-true}
use Rattle.ace_model.proofs.Terms.{ArKind, Header, Channel, Read, R, Transaction, Trace, implies, is_some_and, beats_of, is_ace, read_kind, is_line, ended, transaction_of}
use Rattle.ace_model.proofs.Terms.{outstanding, transfers, first_resp, completed, completes, acknowledgements, granted, is_granted, has_passed_data, state_of, are_snoops_done, k18, k19, is_due}
use Rattle.ace_model.proofs.Terms.{is_next_transfer, may_transfer, takes_passed, has_upper_bits}
use Rattle.ace_model.proofs.Trace.Looks.{at_name, without-other, was_there}
use Rattle.ace_model.proofs.Trace.Issued.{same_place, outstanding-named, outstanding-name}
use Rattle.ace_model.proofs.General.Lists.{slice_get-more}
use Rattle.ace_model.proofs.Tables.States.{Lessens-self}
use Rattle.ace_model.proofs.Holders.Kept.{arrives_kept, read_kept, standing}
use Rattle.ace_model.proofs.Trace.Outstanding.{one_name, ends_lite}
use Rattle.ace_model.proofs.Holders.FirstTransfer.{IsFirst, upper_bits, first_alone, first_beside, first_dirty}
use Rattle.ace_model.proofs.Holders.Facts.{Arrives, TransfersArrive, QueueStands, QueueDistinct, OneHolder}
use Rattle.ace_model.proofs.General.Options.{Some-injective, is_some_and-is, is_none_or-at}
use Rattle.ace_model.proofs.General.Booleans.{implies-at, same_test-at}

module _ (h : Header) (past : Trace) where
  -- what the rule on transfers says of the read that the event names
  pub record MayTransfer (q j resp : ℕ) (last : Bool) : Type 0 where
    pub one : Transaction
    pub out : outstanding h past q Read j ≡ Some one
    pub named : transaction_of past q Read j ≡ Some one
    pub port : one.port ≡ q
    pub id : one.id ≡ j
    pub kind : ArKind
    pub is_kind : read_kind one ≡ Some kind
    pub few : transfers past q j < beats_of kind
    pub ends : last ≡ true → transfers past q j + 1 ≡ beats_of kind
    pub may : is_line one ≡ true → may_transfer h past one resp ≡ true

  pub may : (q j resp : ℕ) (last : Bool) (word : ℕ) → k18 h past (R q j resp last word) ≡ true → MayTransfer q j resp last
  may q j resp last word k =
      let o = is_some_and-is (outstanding h past q Read j) (is_due h past resp last) k in
      let x = o.0 in
      let name = outstanding-name h past q Read j x o.1 in
      let due = and_parts (is_some_and (read_kind x) (is_next_transfer past x last)) _ o.2 in
      let kind = is_some_and-is (read_kind x) (is_next_transfer past x last) due.0 in
      let beats = and_parts (nat_lt (transfers past x.port x.id) (beats_of kind.0)) _ kind.2 in
      let same : transfers past x.port x.id ≡ transfers past q j = at_name (λ a c. transfers past a) x q Read j name in
      record {
        one = x;
        out = o.1;
        named = outstanding-named h past q Read j x o.1;
        port = name.port;
        id = name.id;
        kind = kind.0;
        is_kind = kind.1;
        few = rw (← same) (ltb-true (transfers past x.port x.id) (beats_of kind.0) beats.0);
        ends = λ e. ap (λ n. n + 1) (sym same) ∙ eqb-true (transfers past x.port x.id + 1) (beats_of kind.0) (sym (same_test-at last _ beats.1) ∙ e);
        may = λ line. implies-at (is_line x) (may_transfer h past x resp) due.1 line;
      }

  -- the granted transaction at its place is the one itself
  pub granted_one : (q : ℕ) (c : Channel) (j : ℕ) (x : Transaction) → OneHolder h past → transaction_of past q c j ≡ Some x → is_granted h past x ≡ true
      → granted h past x.addr ≡ Some x
  granted_one q c j x f named g =
      let y = is_some_and-is (granted h past x.addr) (λ z. nat_eq z.place x.place) g in
      let s = f.grants x.addr y.0 y.1 in
      let one : y.0 ≡ x = same_place past y.0.port q y.0.chan c y.0.id j y.0 x (outstanding-named h past y.0.port y.0.chan y.0.id y.0 s.0) named (eqb-true y.0.place x.place y.2) in
      y.1 ∙ ap Some one

  module _ (q j resp : ℕ) (last : Bool) (word : ℕ) where
    -- a read of an ACE port stays outstanding
    stays_r : (p i : ℕ) (x : Transaction) → is_ace h p ≡ true → outstanding h past p Read i ≡ Some x
        → outstanding h (R q j resp last word ∷ past) p Read i ≡ Some x
    stays_r p i x ace o =
        without-other (ended h past (R q j resp last word)) (outstanding h past p Read i) x o (λ z is same.
        let lite = ends_lite h past q j resp last word z is in
        let port = (one_name past q p Read Read j i z x lite.1 (outstanding-named h past p Read i x o) same).port in
        let isnt : is_ace h p ≡ false = ap (is_ace h) (sym port) ∙ lite.0 in cc)

    own_name : (nat_eq q q && nat_eq j j) ≡ true
    own_name = and_from _ _ (eq-eqb q q (refl {a = q})) (eq-eqb j j (refl {a = j}))

    -- an identifier in a port's queue after a transfer was there, or is that of the transfer
    record IsNew (p n i : ℕ) : Type 0 where
      at : n ≡ length (completed past p Read)
      same_id : j ≡ i
      same_port : p ≡ q
      is_last : last ≡ true

    entry : (p n i : ℕ) → slice_get (completed (R q j resp last word ∷ past) p Read) n ≡ Some i
        → (slice_get (completed past p Read) n ≡ Some i) ⊎ IsNew p n i
    entry p n i e =
        elim (slice_get-more (completed past p Read) (completes (R q j resp last word) p Read) n i e) [
          | inl old ↦ inl old
          | inr new ↦ elim (cases_Bool (nat_eq p q && last)) [
            | inr other ↦ let bad : None ≡ Some i = rw other at new.1 in cc
            | inl t ↦
                let parts = and_parts (nat_eq p q) last t in
                let id : Some j ≡ Some i = rw t at new.1 in
                inr (record { at = new.0; same_id = Some-injective j i id; same_port = eqb-true p q parts.0; is_last = parts.1 })
          ]
        ]

    module _ (f : OneHolder h past) (m : MayTransfer q j resp last) where
      -- the read of the transfer did not wait in the queue
      not_queued : (p n i : ℕ) → is_ace h p ≡ true → acknowledgements past p Read ≤ n → slice_get (completed past p Read) n ≡ Some i → p ≡ q → j ≡ i → ⊥
      not_queued p n i ace low e pq ji =
          let base = rw (pq, ← ji) at (f.queue p n i ace low e) in
          let one : base.0 ≡ m.one = Some-injective base.0 m.one (sym base.1 ∙ m.out) in
          let whole : (transfers past q j == beats_of m.kind) ≡ true = rw (one, m.is_kind) at base.2 in
          let few = m.few in
          let all = eqb-true (transfers past q j) (beats_of m.kind) whole in
          absurd (omega (arith, few, all))

      -- the last transfer puts its read into the queue, with all its transfers
      queue_r : QueueStands h (R q j resp last word ∷ past)
      queue_r p n i ace low e =
          elim (entry p n i e) [
            | inl old ↦
                let base = f.queue p n i ace low old in (
                  base.0,
                  stays_r p i base.0 ace base.1,
                  elim (cases_Bool (nat_eq p q && nat_eq i j)) [
                    | inr other ↦ rw other base.2
                    | inl same ↦
                        let parts = and_parts (nat_eq p q) (nat_eq i j) same in
                        absurd (not_queued p n i ace low old (eqb-true p q parts.0) (sym (eqb-true i j parts.1)))
                  ],
                )
            | inr new ↦
                let more : transfers (R q j resp last word ∷ past) q j ≡ transfers past q j + 1 = rw own_name (refl {a = transfers past q j + 1}) in
                let whole : (transfers (R q j resp last word ∷ past) q j == beats_of m.kind) ≡ true =
                eq-eqb (transfers (R q j resp last word ∷ past) q j) (beats_of m.kind) (more ∙ m.ends new.is_last) in
                let out = stays_r q j m.one (rw new.same_port at ace) m.out in
                rw (new.same_port, ← new.same_id) (m.one, out, rw m.is_kind whole)
          ]

      distinct_r : QueueDistinct h (R q j resp last word ∷ past)
      distinct_r p a b i ace la lb ea eb =
          elim (entry p a i ea) [
            | inl olda ↦ elim (entry p b i eb) [
              | inl oldb ↦ f.distinct p a b i ace la lb olda oldb
              | inr w ↦ absurd (not_queued p a i ace la olda w.same_port w.same_id)
            ]
            | inr v ↦ elim (entry p b i eb) [
              | inl oldb ↦ absurd (not_queued p b i ace lb oldb v.same_port v.same_id)
              | inr w ↦ v.at ∙ sym w.at
            ]
          ]

      module _ (bits : k19 h past (R q j resp last word) ≡ true) where
        -- the read of the transfer, at an ACE port
        arrive_here : is_ace h q ≡ true → is_line m.one ≡ true → Arrives h (R q j resp last word ∷ past) q j m.one
        arrive_here ace line =
            elim (cases_eq (transfers past q j) 0) [
              | inr later ↦
                  arrives_kept h past (R q j resp last word) q j m.one stands (rw (ne_eqb (transfers past q j) 0 later, and-false) refl) refl
                  (λ r. Lessens-self (state_of h past r m.one.addr)) (f.arrive q j m.one ace m.out line later)
              | inl zero_before ↦
                  let first : first_resp (R q j resp last word ∷ past) q j ≡ Some resp =
                  rw (own_name, eq-eqb (transfers past q j) 0 zero_before) refl in
                  let d = is_first zero_before in
                  let of_kind = λ (k : ArKind) (is : read_kind m.one ≡ Some k). Some-injective k m.kind (sym is ∙ m.is_kind) in
                  record {
                    stands = stands;
                    alone = λ k is t r ne. first_alone h past m.one m.kind resp f d (rw (of_kind k is, first) at t) r (λ e. ne (sym m.port ∙ e));
                    beside = λ k is t r ne. first_beside h past m.one m.kind resp f d (rw (sym (of_kind k is)) t) r (λ e. ne (sym m.port ∙ e));
                    dirty = λ t. first_dirty h past m.one m.kind resp f d (rw first at t);
                  }
            ]
          where
            parts : (is_granted h past m.one && implies (nat_eq (transfers past m.one.port m.one.id) 0) (are_snoops_done h past m.one) ≡ true)
                × (implies (has_passed_data h past m.one) (takes_passed h past m.one resp) ≡ true)
            parts = and_parts (is_granted h past m.one && implies (nat_eq (transfers past m.one.port m.one.id) 0) (are_snoops_done h past m.one)) _ (m.may line)

            stood : granted h past m.one.addr ≡ Some m.one
            stood = granted_one q Read j m.one f m.named (and_parts (is_granted h past m.one) _ parts.0).0

            stands : granted h (R q j resp last word ∷ past) m.one.addr ≡ Some m.one
            stands =
                without-other (ended h past (R q j resp last word)) (granted h past m.one.addr) m.one stood (λ z is same.
                let isnt = (ends_lite h past q j resp last word z is).0 in cc)

            is_first : transfers past q j ≡ 0 → IsFirst h past m.one m.kind resp
            is_first z =
                let same : transfers past m.one.port m.one.id ≡ transfers past q j = ap (λ a. transfers past a m.one.id) m.port ∙ ap (transfers past q) m.id in
                record {
                  ace = ap (is_ace h) m.port ∙ ace;
                  kind = m.is_kind;
                  stands = stood;
                  done = implies-at (nat_eq (transfers past m.one.port m.one.id) 0) (are_snoops_done h past m.one)
                      (and_parts (is_granted h past m.one) _ parts.0).1 (eq-eqb (transfers past m.one.port m.one.id) 0 (same ∙ z));
                  takes = implies-at (has_passed_data h past m.one) (takes_passed h past m.one resp) parts.1;
                  bits = upper_bits h past m.one m.kind resp m.is_kind
                      (is_none_or-at (outstanding h past q Read j) (has_upper_bits h past resp) m.one bits m.out);
                }

        arrive_r : TransfersArrive h (R q j resp last word ∷ past)
        arrive_r p i x ace o line some =
            elim (cases_Bool (nat_eq p q && nat_eq i j)) [
              | inr other ↦
                  read_kept h past (R q j resp last word) f refl (λ l y g r. Lessens-self (state_of h past r l)) p i x ace o line
                  (λ z. some (rw other z)) (rw other refl)
              | inl same ↦
                  let parts = and_parts (nat_eq p q) (nat_eq i j) same in
                  let pq = eqb-true p q parts.0 in
                  let ij = eqb-true i j parts.1 in
                  let was = was_there (ended h past (R q j resp last word)) (outstanding h past p Read i) x o in
                  let here : outstanding h past q Read j ≡ Some x = rw (pq, ij) at was in
                  let one : m.one ≡ x = Some-injective m.one x (sym m.out ∙ here) in
                  rw (pq, ij, ← one) (arrive_here (rw pq at ace) (ap is_line one ∙ line))
            ]

    pub keeps_r : OneHolder h past → k18 h past (R q j resp last word) ≡ true → k19 h past (R q j resp last word) ≡ true
        → OneHolder h (R q j resp last word ∷ past)
    keeps_r f due bits =
        let m = may q j resp last word due in
        assumption (
          f,
          standing h past (R q j resp last word) f refl (λ l x g r. Lessens-self (state_of h past r l)),
          arrive_r f m bits,
          queue_r f m,
          distinct_r f m,
        )
