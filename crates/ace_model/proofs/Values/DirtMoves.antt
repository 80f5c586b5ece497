-- A dirty line stays dirty at its port, or is written to memory, or its port answers a snoop of it.
use Rattle.std.proofs.Common.{◌≡◌, ◌⊎◌, ℕ, true, false, ◌&&◌, ◌||◌, nat_eq, ◌∷◌, Some, None, refl, sym, ap, subst, inl, inr}
use Rattle.std.proofs.lemmas.Bool.{and_parts, or_cases, or_left, or_right, cases_Bool, eqb-true}
use Rattle.ace_model.proofs.Terms.{is_make_unique, AwKind, LineState, Write, Event, Rk, Wk, Cr, S, D, Header, is_dirty, Transaction, Trace, is_some_and, is_line_read, is_line_write, is_granted_write}
use Rattle.ace_model.proofs.Terms.{is_line, is_some_on, read_kind, write_kind, acknowledged, answers_line, state_of, IsAccepted}
use Rattle.ace_model.proofs.Tables.Kinds.{is_dirty_update, is_clean_write, write_kinds, update_data, dirty_updates}
use Rattle.ace_model.proofs.Holders.Stores.{is_named_by_d}
use Rattle.ace_model.proofs.Holders.Acknowledge.{is_named_by_rk}
use Rattle.ace_model.proofs.Holders.Rises.{stays_empty}
use Rattle.ace_model.proofs.Tables.SnoopRows.{silent_dirty}
use Rattle.ace_model.proofs.Grants.SnoopAnswers.{Answering, answering_cr}
use Rattle.ace_model.proofs.Values.UpdateHolds.{stays_clean, moves_silently}
use Rattle.ace_model.proofs.Values.Ended.{write_ends}
use Rattle.ace_model.proofs.Holders.Rises.{ends_line_of}
use Rattle.ace_model.proofs.Values.Facts.{Updated, UpdatedTrue}
use Rattle.ace_model.proofs.General.Options.{is_some_and-is}
use Rattle.ace_model.proofs.Tables.States.{dirty_valid}

line_write : (x : Transaction) → x.chan ≡ Write → is_line x ≡ true → (k : AwKind) × (write_kind x ≡ Some k) × (is_line_write k ≡ true)
line_write x chan line =
    let none : read_kind x ≡ None = rw chan refl in
    elim (or_cases (is_some_and (read_kind x) is_line_read) (is_some_and (write_kind x) is_line_write) line) [
      | inl reads ↦ let bad : false ≡ true = rw none at reads in cc
      | inr writes ↦ is_some_and-is (write_kind x) is_line_write writes
    ]

module _ (h : Header) (past : Trace) where
  -- The port answers a snoop of the line.
  pub record AnswersNow (e : Event) (p l : ℕ) : Type 0 where
    pub resp : ℕ
    pub st : LineState
    pub is : e ≡ Cr p resp st
    pub answering : Answering h past p resp st l

  dirt_wk : (q : ℕ) (st : LineState) → IsAccepted h (Wk q st ∷ past) → UpdatedTrue h past → (p l : ℕ) → is_dirty (state_of h past p l) ≡ true
      → (nat_eq p q && is_some_on (acknowledged past p Write) l) ≡ true → Updated h past l
  dirt_wk q st a f p l d t =
      let w = write_ends h past q st a p l t in
      let k = line_write w.one w.chan (and_parts (is_line w.one) _ w.on).0 in
      elim (or_cases (is_dirty_update k.0 || is_clean_write k.0) (is_granted_write k.0) (write_kinds k.0 k.2)) [
        | inl told ↦ elim (or_cases (is_dirty_update k.0) (is_clean_write k.0) told) [
          | inl updates ↦
              f p w.id l w.one w.out w.on (rw k.1 updates)
              (w.written (rw k.1 (update_data k.0 (dirty_updates k.0 updates))))
          | inr clean ↦
              let none = stays_clean h past a.0 p w.id l w.one w.out w.on (rw k.1 clean) in cc
        ]
        | inr granted ↦
            let empty = stays_empty h past a.0 p Write w.id l w.one w.out w.on
            (inr (inl (rw k.1 granted))) in
            absurd (dirty_valid (state_of h past p l) d empty)
      ]

  pub dirt_moves : (e : Event) → IsAccepted h (e ∷ past) → UpdatedTrue h past → (p l : ℕ) → is_dirty (state_of h past p l) ≡ true
      → (is_dirty (state_of h (e ∷ past) p l) ≡ true) ⊎ Updated h past l ⊎ AnswersNow e p l
  dirt_moves (Rk q st) a f p l d =
      elim (cases_Bool (is_named_by_rk past q p l)) [
        | inr other ↦ inl (rw other d)
        | inl t ↦
            let r = ends_line_of h past q st a p l t in
            inl (rw t (r.state.keeps_dirt (or_left _ (is_make_unique r.kind) (or_right _ (is_dirty (state_of h past p l)) d))))
      ]
  dirt_moves (Wk q st) a f p l d =
      elim (cases_Bool (nat_eq p q && is_some_on (acknowledged past p Write) l)) [
        | inr other ↦ inl (rw other d)
        | inl t ↦ inr (inl (dirt_wk q st a f p l d t))
      ]
  dirt_moves (Cr q resp st) a f p l d =
      elim (cases_Bool (nat_eq p q && answers_line past p l)) [
        | inr other ↦ inl (rw other d)
        | inl t ↦
            let parts = and_parts (nat_eq p q) (answers_line past p l) t in
            let is : Cr q resp st ≡ Cr p resp st = ap (λ b. Cr b resp st) (sym (eqb-true p q parts.0)) in
            inr (inr (record { resp = resp; st = st; is = is; answering = answering_cr h past p resp st (subst (λ v. IsAccepted h (v ∷ past)) is a) l parts.1 }))
      ]
  dirt_moves (S q addr st) a f p l d =
      elim (cases_Bool (nat_eq p q && nat_eq l addr)) [
        | inr other ↦ inl (rw other d)
        | inl t ↦ inl (rw t (silent_dirty (state_of h past p l) st (moves_silently h past q addr st a p l t).move d))
      ]
  dirt_moves (D q addr strobe s line) a f p l d =
      elim (cases_Bool (is_named_by_d h past q addr p l)) [
        | inr other ↦ inl (rw other d)
        | inl t ↦ inl (rw t refl)
      ]
  dirt_moves _ a f p l d = inl d
