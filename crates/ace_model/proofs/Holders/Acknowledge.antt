-- RK: a complete read ends, and its port holds the line in the state that it names.
use Rattle.std.proofs.Common.{◌≡◌, ◌≢◌, ◌==◌, ℕ, ◌+◌, ◌≤◌, Bool, true, ◌&&◌, nat_eq, nat_lt, ◌∷◌, Some, le_refl, refl, sym, ap, subst, ◌∙◌, arith, inl, inr}
use Rattle.std.proofs.lemmas.Bool.{and_parts, cases_Bool, cases_eq, eqb-true, eq-eqb}
use Rattle.ace_model.proofs.Terms.{ArKind, LineState, is_make_unique, has_store, passes_dirty, is_shared, Header, Read, Rk, ends_read, is_unique, is_dirty, Transaction, Trace, is_some_and, beats_of}
use Rattle.ace_model.proofs.Terms.{is_ace, is_line, is_on, is_some_on, read_kind, transaction_of, outstanding, acknowledgements, transfers, first_resp, next_complete, acknowledged}
use Rattle.ace_model.proofs.Terms.{transaction_under, granted, has_failed, state_of, UniqueNow, OneDirtyNow, k1, k22, k23, ends_well, is_end, held_of}
use Rattle.ace_model.proofs.Trace.Looks.{without-some, without-other}
use Rattle.ace_model.proofs.Trace.Issued.{outstanding-named, outstanding-name}
use Rattle.ace_model.proofs.Tables.States.{Lessens-same}
use Rattle.ace_model.proofs.Tables.ReadEnds.{takes_alone, takes_shared, ReadEnds, read_is}
use Rattle.ace_model.proofs.Holders.Kept.{standing, arrive_kept}
use Rattle.ace_model.proofs.Trace.Outstanding.{one_name}
use Rattle.ace_model.proofs.Holders.Facts.{OthersInvalid, OthersNotUnique, AllSettled, Arrives, QueueStands, QueueDistinct, OutsideInvalid, OneHolder}
use Rattle.ace_model.proofs.General.Options.{Some-injective, some_is, is_some_and-is, is_none_or-at}
use Rattle.ace_model.proofs.General.Booleans.{above_count, implies-at}
use Rattle.ace_model.proofs.Tables.Less.{settled_clean}
use Rattle.ace_model.proofs.Trace.Transfers.{IsFull, full_some}

-- the test that an RK names the port's state of the line
abbrev pub is_named_by_rk : Trace → ℕ → ℕ → ℕ → Bool
is_named_by_rk past q r l = nat_eq r q && is_some_on (acknowledged past r Read) l

module _ (h : Header) (past : Trace) (q : ℕ) where
  -- The read that an RK of the port belongs to: it is outstanding, and has had a transfer.
  pub record Ends : Type 0 where
    pub ended_one : Transaction
    pub id : ℕ
    pub ace : is_ace h q ≡ true
    pub next : next_complete past q Read ≡ Some id
    pub is : acknowledged past q Read ≡ Some ended_one
    pub out : outstanding h past q Read id ≡ Some ended_one
    pub named : transaction_of past q Read id ≡ Some ended_one
    pub port : ended_one.port ≡ q
    pub is_id : ended_one.id ≡ id
    pub kind : ArKind
    pub is_kind : read_kind ended_one ≡ Some kind
    pub full : IsFull past q id ended_one
    pub arrives : is_line ended_one ≡ true → Arrives h past q id ended_one

  module _ (st : LineState) where
    pub ends : OneHolder h past → k1 h past (Rk q st) ≡ true → k22 h past (Rk q st) ≡ true → Ends
    ends f known k =
        let ace : is_ace h q ≡ true = (and_parts (nat_lt q h.ports) (is_ace h q) known).1 in
        let next = some_is (next_complete past q Read) k in
        let s = f.queue q (acknowledgements past q Read) next.0 ace (le_refl (acknowledgements past q Read)) next.1 in
        let named = outstanding-named h past q Read next.0 s.0 s.1 in
        let name = outstanding-name h past q Read next.0 s.0 s.1 in
        let kind = is_some_and-is (read_kind s.0) (λ k. transfers past q next.0 == beats_of k) s.2 in
        record {
          ended_one = s.0;
          id = next.0;
          ace = ace;
          next = next.1;
          is = ap (transaction_under past q Read) next.1 ∙ named;
          out = s.1;
          named = named;
          port = name.port;
          is_id = name.id;
          kind = kind.0;
          is_kind = kind.1;
          full = s.2;
          arrives = λ line. f.arrive q next.0 s.0 ace s.1 line (full_some past q next.0 s.0 s.2);
        }

    -- An RK that names the port's state of the line: the read that ends, by this port and line.
    pub record EndsLine (r l : ℕ) : Type 0 where
      pub port : r ≡ q
      pub one : Transaction
      pub id : ℕ
      pub out : outstanding h past r Read id ≡ Some one
      pub named : transaction_of past r Read id ≡ Some one
      pub on : is_on one l ≡ true
      pub line : one.addr ≡ l
      pub kind : ArKind
      pub is_kind : read_kind one ≡ Some kind
      pub ends_it : acknowledged past q Read ≡ Some one
      pub state :
          ReadEnds kind (state_of h past r l) (is_some_and (first_resp past r id) is_shared) (is_some_and (first_resp past r id) passes_dirty)
          (has_failed past one) st
      pub stored : is_make_unique kind ≡ true → has_store h past r id ≡ true
      pub arrives : Arrives h past r id one
      pub full : IsFull past r id one

    -- the line is granted to it, and the other ports hold what its kind and its response let them hold
    module _ (r l : ℕ) (d : EndsLine r l) where
      pub line_granted : granted h past l ≡ Some d.one
      line_granted = subst (λ v. granted h past v ≡ Some d.one) d.line d.arrives.stands

      alone : takes_alone d.kind (is_some_and (first_resp past r d.id) is_shared) (has_failed past d.one) ≡ true → OthersInvalid h past r l
      alone taken = subst (OthersInvalid h past r) d.line (d.arrives.alone d.kind d.is_kind taken)

      beside : takes_shared d.kind ≡ true → OthersNotUnique h past r l
      beside taken = subst (OthersNotUnique h past r) d.line (d.arrives.beside d.kind d.is_kind taken)

    -- another port keeps its state
    state_beside : (r l : ℕ) → r ≢ q → state_of h (Rk q st ∷ past) r l ≡ state_of h past r l
    state_beside r l apart =
        elim (cases_Bool (is_named_by_rk past q r l)) [
          | inr other ↦ rw other refl
          | inl t ↦ absurd (apart (eqb-true r q (and_parts (nat_eq r q) _ t).0))
        ]

    fewer : (p n : ℕ) → acknowledgements (Rk q st ∷ past) p Read ≤ n → acknowledgements past p Read ≤ n
    fewer p n low = above_count (nat_eq p q) (acknowledgements past p Read) n low

    module _ (k : k23 h past (Rk q st) ≡ true) (e : Ends) where
      pub ends_line : (r l : ℕ) → is_named_by_rk past q r l ≡ true → EndsLine r l
      ends_line r l t =
          let x = e.ended_one in
          let parts = and_parts (nat_eq r q) _ t in
          let port = eqb-true r q parts.0 in
          let y = is_some_and-is (acknowledged past r Read) (λ x. is_on x l) parts.1 in
          let one : y.0 ≡ x = Some-injective y.0 x (sym y.1 ∙ ap (λ a. acknowledged past a Read) port ∙ e.is) in
          let on : is_on x l ≡ true = subst (λ v. is_on v l ≡ true) one y.2 in
          let two = and_parts (is_line x) (nat_eq x.addr l) on in
          let line = eqb-true x.addr l two.1 in
          let same = e.port ∙ sym port in
          let o = first_resp past x.port x.id in
          let first : o ≡ first_resp past r e.id = rw (same, e.is_id) refl in
          let stored : has_store h past x.port x.id ≡ has_store h past r e.id = rw (same, e.is_id) refl in
          let held : held_of h past x ≡ state_of h past r l = rw (two.0, same, line) refl in
          let well = is_none_or-at (acknowledged past q Read) (ends_well h past st) x k e.is in
          let end = and_parts (ends_read e.kind (held_of h past x) (is_some_and o is_shared) (is_some_and o passes_dirty) (has_failed past x) st) _
          (is_none_or-at (read_kind x) (is_end h past x st) e.kind well e.is_kind) in
          record {
            port = port;
            one = x;
            id = e.id;
            out = ap (λ v. outstanding h past v Read e.id) port ∙ e.out;
            named = ap (λ v. transaction_of past v Read e.id) port ∙ e.named;
            on = on;
            line = line;
            kind = e.kind;
            is_kind = e.is_kind;
            ends_it = e.is;
            state = read_is e.kind _ _ _ _ st (rw (held, first) at end.0);
            stored = λ m. sym stored ∙ implies-at (is_make_unique e.kind) _ end.1 m;
            arrives = subst (λ v. Arrives h past v e.id x) (sym port) (e.arrives two.0);
            full = rw port e.full;
          }

      -- the states of a line that is still granted are as they were
      pub states_rk : (l : ℕ) (x : Transaction) → granted h (Rk q st ∷ past) l ≡ Some x → (r : ℕ) → state_of h (Rk q st ∷ past) r l ≡ state_of h past r l
      states_rk l x g r =
          elim (cases_Bool (is_named_by_rk past q r l)) [
            | inr f ↦ rw f refl
            | inl t ↦
                let w = without-some (acknowledged past q Read) (granted h past l) x g in
                let d = ends_line r l t in
                absurd (w.1 d.one d.ends_it (ap (λ (v : Transaction). v.place) (Some-injective d.one x (sym (line_granted r l d) ∙ w.0))))
          ]

      module _ (f : OneHolder h past) where
        -- the read that ends waits once
        queue_rk : QueueStands h (Rk q st ∷ past)
        queue_rk p n i ace low g =
            let s = f.queue p n i ace (fewer p n low) g in (
              s.0,
              without-other (acknowledged past q Read) (outstanding h past p Read i) s.0 s.1 (λ z is same. absurd (waits_once s.0 s.1 z is same)),
              s.2,
            )
          where
            waits_once : (x : Transaction) → outstanding h past p Read i ≡ Some x → (z : Transaction) → acknowledged past q Read ≡ Some z → z.place ≡ x.place → ⊥
            waits_once x o z is same =
                let zd : e.ended_one ≡ z = Some-injective e.ended_one z (sym e.is ∙ is) in
                let name = one_name past q p Read Read e.id i e.ended_one x e.named (outstanding-named h past p Read i x o) (ap (λ (v : Transaction). v.place) zd ∙ same) in
                let next = rw (name.port, name.id) at e.next in
                let at = f.distinct p (acknowledgements past p Read) n i ace (le_refl (acknowledgements past p Read)) (fewer p n low) next g in
                let above : acknowledgements past p Read + 1 ≤ n = rw (eq-eqb p q (sym name.port)) at low in
                omega arith

        distinct_rk : QueueDistinct h (Rk q st ∷ past)
        distinct_rk p m n i ace a b = f.distinct p m n i ace (fewer p m a) (fewer p n b)

        outside_rk : OutsideInvalid h (Rk q st ∷ past)
        outside_rk r l o =
            elim (cases_Bool (is_named_by_rk past q r l)) [
              | inr other ↦ rw other (f.outside r l o)
              | inl t ↦
                  let ace : is_ace h r ≡ true = ap (is_ace h) (eqb-true r q (and_parts (nat_eq r q) _ t).0) ∙ e.ace in
                  cc
            ]

        unique_rk : UniqueNow h (Rk q st ∷ past)
        unique_rk l p r u ne =
            elim (cases_Bool (is_named_by_rk past q p l)) [
              | inl t ↦
                  let d = ends_line p l t in
                  state_beside r l (λ same. ne (d.port ∙ sym same))
                  ∙ elim (d.state.unique (rw t at u)) [
                    | inl was ↦ f.unique l p r was ne
                    | inr taken ↦ alone p l d taken r ne
                  ]
              | inr other ↦ elim (cases_Bool (is_named_by_rk past q r l)) [
                | inr neither ↦ rw neither (f.unique l p r (rw other at u) ne)
                | inl t ↦
                    let was : is_unique (state_of h past p l) ≡ true = rw other at u in
                    let d = ends_line r l t in
                    let back = λ (same : r ≡ p). ne (sym same) in
                    rw t (elim d.state.kept [
                      | inl gone ↦ gone
                      | inr more ↦ elim more [
                        | inl held ↦ let bad = rw (f.unique l p r was ne) at held in cc
                        | inr kinds ↦ elim kinds [
                          | inl taken ↦ let bad = rw (alone r l d taken p back) at was in cc
                          | inr taken ↦ let bad = beside r l d taken p back in cc
                        ]
                      ]
                    ])
              ]
            ]

        -- another port than that of the RK isn't dirty beside it
        alone_rk : (l a b : ℕ) → is_named_by_rk past q a l ≡ true → is_dirty (state_of h (Rk q st ∷ past) a l) ≡ true
            → is_dirty (state_of h (Rk q st ∷ past) b l) ≡ true → a ≡ b
        alone_rk l a b t da db =
            let d = ends_line a l t in
            elim (cases_eq a b) [
              | inl same ↦ same
              | inr apart ↦
                  let was : is_dirty (state_of h past b l) ≡ true = rw (state_beside b l (λ same. apart (d.port ∙ sym same))) at db in
                  elim (d.state.dirty (rw t at da)) [
                    | inl own ↦ f.one_dirty l a b own was
                    | inr came ↦ elim came [
                      | inl passed ↦
                          let clean = settled_clean (state_of h past b l) (subst (AllSettled h past) d.line (d.arrives.dirty passed) b) in cc
                      | inr taken ↦ let clean = ap is_dirty (alone a l d taken b apart) in cc
                    ]
                  ]
            ]

        one_dirty_rk : OneDirtyNow h (Rk q st ∷ past)
        one_dirty_rk l a b da db =
            elim (cases_Bool (is_named_by_rk past q a l)) [
              | inl t ↦ alone_rk l a b t da db
              | inr other ↦ elim (cases_Bool (is_named_by_rk past q b l)) [
                | inl t ↦ sym (alone_rk l b a t db da)
                | inr neither ↦ f.one_dirty l a b (rw other at da) (rw neither at db)
              ]
            ]

        pub keeps_rk : OneHolder h (Rk q st ∷ past)
        keeps_rk =
            let same = λ (l : ℕ) (x : Transaction) (g : granted h (Rk q st ∷ past) l ≡ Some x) (r : ℕ). Lessens-same _ _ (states_rk l x g r) in
            assumption (
              standing h past (Rk q st) f refl same,
              arrive_kept h past (Rk q st) f refl same (λ p i. refl) (λ p i. refl),
              queue_rk,
              distinct_rk,
              outside_rk,
              unique_rk,
              one_dirty_rk,
            )
