-- A port comes to hold more of a line by the RK of its own read alone, and makes it dirty by that or by a store alone.
use Rattle.std.proofs.Common.{◌≡◌, ◌⊎◌, ℕ, true, false, [], ◌∷◌, length, Some, refl, ap, ◌∙◌, inl, inr}
use Rattle.std.proofs.lemmas.Bool.{and_parts, cases_Bool, eqb-true}
use Rattle.ace_model.proofs.Terms.{LineState, I, Channel, Read, Event, Ar, Rk, Aw, D, Header, starts_read, starts_write, is_dirty, Transaction}
use Rattle.ace_model.proofs.Terms.{Trace, is_some_and, is_none_or, reads_a_line, is_granted_write, is_line, is_on, issued, ended, read_kind, write_kind, outstanding, state_of, discards_data}
use Rattle.ace_model.proofs.Terms.{is_line_read_transaction, starts_well, may_store, IsAccepted}
use Rattle.ace_model.proofs.Trace.Looks.{has_name-is, newest_named-cases, without-some}
use Rattle.ace_model.proofs.Rules.Keeps.{accepted_keeps}
use Rattle.ace_model.proofs.Tables.States.{Lessens, Lessens-same}
use Rattle.ace_model.proofs.Holders.Stores.{stores, is_named_by_d}
use Rattle.ace_model.proofs.Holders.Lessened.{less_by, lessened_by}
use Rattle.ace_model.proofs.Holders.Acknowledge.{Ends, EndsLine, ends, ends_line, is_named_by_rk}
use Rattle.ace_model.proofs.Holders.RestsOn.{accepted_keeps_each}
use Rattle.ace_model.proofs.Holders.Law.{accepted_holds}
use Rattle.ace_model.proofs.Trace.LineOnce.{one_on_line}
use Rattle.ace_model.proofs.General.Options.{is_some_and-is, is_none_or-at}
use Rattle.ace_model.proofs.General.Booleans.{implies-at}
use Rattle.ace_model.proofs.Tables.ReadSnoops.{discards_kind}
use Rattle.ace_codes.specs.declared.kind.ArKind.TheVariants as read
use Rattle.ace_model.proofs.Tables.Less.{less-clean}
use Rattle.ace_model.proofs.Tables.StartStates.{read_starts, write_starts, discard_starts}

module _ (h : Header) (past : Trace) where
  -- The read of the port on the line that the event ends by its RK.
  pub record Raised (e : Event) (p l : ℕ) : Type 0 where
    pub port : ℕ
    pub st : LineState
    pub is : e ≡ Rk port st
    pub named : is_named_by_rk past port p l ≡ true
    pub line : EndsLine h past port st p l
    pub open line use {one as read_one, id, out, on, arrives}
    pub ends_it : ended h past e ≡ Some read_one

  pub ends_of : (q : ℕ) (st : LineState) → IsAccepted h (Rk q st ∷ past) → Ends h past q
  ends_of q st a =
      ends h past q st (accepted_holds h past a.0) (accepted_keeps h past (Rk q st) a).rule_1 (accepted_keeps h past (Rk q st) a).rule_22

  pub ends_line_of : (q : ℕ) (st : LineState) → IsAccepted h (Rk q st ∷ past) → (p l : ℕ) → is_named_by_rk past q p l ≡ true → EndsLine h past q st p l
  ends_line_of q st a = ends_line h past q st (accepted_keeps h past (Rk q st) a).rule_23 (ends_of q st a)

  raised : (q : ℕ) (st : LineState) → IsAccepted h (Rk q st ∷ past) → (p l : ℕ) → is_named_by_rk past q p l ≡ true → Raised (Rk q st) p l
  raised q st a p l t =
      let d = ends_line_of q st a p l t in
      record { port = q; st = st; is = refl; named = t; line = d; ends_it = d.ends_it }

  -- an event lessens the port's state of the line, or is the RK of its read
  pub state_moves : (e : Event) → IsAccepted h (e ∷ past) → (p l : ℕ)
      → Lessens (state_of h past p l) (state_of h (e ∷ past) p l) ⊎ Raised e p l
  state_moves (Rk q st) a p l =
      elim (cases_Bool (is_named_by_rk past q p l)) [
        | inr f ↦ inl (Lessens-same _ _ (rw f refl))
        | inl t ↦ inr (raised q st a p l t)
      ]
  state_moves e a p l = inl (lessened_by h past e (accepted_keeps_each h past e a) refl l p)

  -- where a line becomes dirty its port may store, or it is the RK of its read
  pub dirty_moves : (e : Event) → IsAccepted h (e ∷ past) → (p l : ℕ) → is_dirty (state_of h past p l) ≡ false
      → (is_dirty (state_of h (e ∷ past) p l) ≡ false) ⊎ (may_store h past p l ≡ true) ⊎ Raised e p l
  dirty_moves (Rk q st) a p l d =
      elim (cases_Bool (is_named_by_rk past q p l)) [
        | inr f ↦ inl (rw f d)
        | inl t ↦ inr (inr (raised q st a p l t))
      ]
  dirty_moves (D q addr strobe x line) a p l d =
      elim (cases_Bool (is_named_by_d h past q addr p l)) [
        | inr f ↦ inl (rw f d)
        | inl t ↦ inr (inl (stores h past q addr strobe x line (accepted_keeps_each h past (D q addr strobe x line) a 32) p l t).may)
      ]
  dirty_moves e a p l d = inl (less-clean _ _ (less_by h past e (accepted_keeps_each h past e a) refl p l) d)

  -- an event that issues a transaction leaves the states as they are
  pub issue_leaves : (e : Event) (x : Transaction) (p l : ℕ) → issued (length past) e ≡ Some x → state_of h (e ∷ past) p l ≡ state_of h past p l
  issue_leaves (Ar q i addr snoop dom bar lock) x p l s = refl
  issue_leaves (Aw q i addr snoop dom bar) x p l s = refl
  issue_leaves e x p l s = cc

-- the transaction starts where its port holds nothing
abbrev pub StartsEmpty : Transaction → Type 0
StartsEmpty x =
    (is_line_read_transaction x ≡ true) ⊎ (is_some_and (write_kind x) is_granted_write ≡ true) ⊎ (discards_data x ≡ true)

-- such a transaction finds its port with nothing
starts : (h : Header) (past : Trace) (x : Transaction) → starts_well h past x ≡ true → is_line x ≡ true → StartsEmpty x → state_of h past x.port x.addr ≡ I
starts h past x well line empty =
    let both = implies-at (is_line x) _ well line in
    let parts = and_parts (is_none_or (read_kind x) (λ k. starts_read k (state_of h past x.port x.addr))) _ both in
    elim empty [
      | inl reads ↦
          let k = is_some_and-is (read_kind x) reads_a_line reads in
          read_starts k.0 _ k.2 (is_none_or-at (read_kind x) (λ k. starts_read k (state_of h past x.port x.addr)) k.0 parts.0 k.1)
      | inr (inl writes) ↦
          let k = is_some_and-is (write_kind x) is_granted_write writes in
          write_starts k.0 _ k.2 (is_none_or-at (write_kind x) (λ k. starts_write k (state_of h past x.port x.addr)) k.0 parts.1 k.1)
      | inr (inr discards) ↦
          discard_starts _ (is_none_or-at (read_kind x) (λ k. starts_read k (state_of h past x.port x.addr)) read.MakeInvalid parts.0 (discards_kind x discards))
    ]

-- and its port holds nothing as long as it is outstanding
pub stays_empty : (h : Header) (past : Trace) → IsAccepted h past → (p : ℕ) (c : Channel) (i l : ℕ) (x : Transaction)
    → outstanding h past p c i ≡ Some x → is_on x l ≡ true → StartsEmpty x → state_of h past p l ≡ I
stays_empty h [] a p c i l x o on empty = refl
stays_empty h (e ∷ past) a p c i l x o on empty =
    elim (newest_named-cases (issued (length past) e) p c i _ x o) [
      | inl new ↦
          let parts = and_parts (is_line x) _ on in
          let well = is_none_or-at (issued (length past) e) (starts_well h past) x (accepted_keeps h past e a).rule_6 new.0 in
          issue_leaves h past e x p l new.0 ∙ rw (← (has_name-is x p c i new.1).port, ← eqb-true x.addr l parts.1) (starts h past x well parts.0 empty)
      | inr old ↦
          let w = without-some (ended h past e) (outstanding h past p c i) x old.0 in
          let was = stays_empty h past a.0 p c i l x w.0 on empty in
          elim (state_moves h past e a p l) [
            | inl less ↦ less.gone was
            | inr up ↦
                let one = one_on_line h past a.0 p Read c up.id i l up.read_one x up.out w.0 up.on on in
                absurd (w.1 up.read_one up.ends_it (ap (λ (v : Transaction). v.place) one))
          ]
    ]
