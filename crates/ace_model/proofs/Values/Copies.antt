-- The copies of the ports that hold a line stay its value.
use Rattle.std.proofs.Common.{◌==◌, length, ◌≡◌, ◌⊎◌, ℕ, Bool, true, false, ◌&&◌, nat_eq, ◌∷◌, Some, refl, sym, ap, subst, ◌∙◌, inl, inr}
use Rattle.std.proofs.lemmas.Bool.{and_parts, cases_Bool, eqb-true, eq-eqb}
use Rattle.std.proofs.Math.Bool.{and-false}
use Rattle.ace_model.proofs.Terms.{LineState, I, Read, Event, R, Rk, M, Mem, D, Header, Line, merged, is_invalid, is_unique, Transaction, Trace, is_some_and, is_on, outstanding}
use Rattle.ace_model.proofs.Terms.{words_read, transaction_of, state_of, is_line_read_transaction, copy_of, value_of, IsAccepted, AreCopiesTrue}
use Rattle.ace_model.proofs.Trace.Opening.{opens_of}
use Rattle.ace_model.proofs.Tables.States.{valid_not, invalid_not, unique_valid}
use Rattle.ace_model.proofs.Tables.Kinds.{fetch_is, make_unique_is}
use Rattle.ace_model.proofs.Holders.Acknowledge.{is_named_by_rk}
use Rattle.ace_model.proofs.Holders.Rises.{state_moves, stays_empty, ends_line_of}
use Rattle.ace_model.proofs.Grants.Begins.{may_of}
use Rattle.ace_model.proofs.Values.MergedLines.{merged-same}
use Rattle.ace_model.proofs.Values.Stores.{stores_d, value_moves, unheld_of, all_empty}
use Rattle.ace_model.proofs.Trace.Transfers.{full_some, full_count}
use Rattle.ace_model.proofs.Values.Facts.{DirtyPlaced}
use Rattle.ace_model.proofs.Holders.Law.{accepted_holds}
use Rattle.ace_model.proofs.General.Options.{is_some_and-is}

-- The event is a store of the port to the line.
pub record StoresLine (e : Event) (p l : ℕ) : Type 0 where
  pub strobe : ℕ
  pub ex : Bool
  pub line : Line
  pub is : e ≡ D p l strobe ex line

module _ (h : Header) (past : Trace) where
  -- only its own D of the line changes the state of a port by a D
  pub state_d : (q addr strobe : ℕ) (b : Bool) (line : Line) (p l : ℕ) → (nat_eq p q && nat_eq l addr) ≡ false
      → state_of h (D q addr strobe b line ∷ past) p l ≡ state_of h past p l
  state_d q addr strobe b line p l other = rw other refl

  -- a store changes the copy of its port as it does the value, and finds no other port with the line
  copies_d : (q l strobe : ℕ) (b : Bool) (line : Line) → IsAccepted h (D q l strobe b line ∷ past) → AreCopiesTrue h past l
      → AreCopiesTrue h (D q l strobe b line ∷ past) l
  copies_d q l strobe b line a f p held =
      elim (cases_Bool (nat_eq p q)) [
        | inl own ↦
            let port = eqb-true p q own in
            let here : nat_eq l l ≡ true = eq-eqb l l refl in
            let goal : merged (copy_of past p l) strobe line ≡ merged (value_of past l) strobe line =
            elim (stores_d h past q l strobe b line a) [
              | inl may ↦
                  let unique = (and_parts (is_unique (state_of h past q l)) _ may).0 in
                  ap (λ c. merged c strobe line) (f p (rw port (unique_valid (state_of h past q l) unique)))
              | inr m ↦ merged-same (copy_of past p l) (value_of past l) line strobe m.whole
            ] in
            rw (own, here) goal
        | inr other ↦
            let apart : q ≡ p → ⊥ = λ same. let t = eq-eqb p q (sym same) in cc in
            let gone : state_of h past p l ≡ I =
            elim (stores_d h past q l strobe b line a) [
              | inl may ↦ (accepted_holds h past a.0).unique l q p (and_parts (is_unique (state_of h past q l)) _ may).0 apart
              | inr m ↦ m.alone p apart
            ] in
            let not_named : (nat_eq p q && nat_eq l l) ≡ false = rw other refl in
            absurd (held (state_d q l strobe b line p l not_named ∙ gone))
      ]

  -- an RK of a read of the line
  copies_rk : (q : ℕ) (st : LineState) → IsAccepted h (Rk q st ∷ past) → DirtyPlaced h past → (l p : ℕ) → is_named_by_rk past q p l ≡ true
      → (st ≡ I → ⊥) → copy_of past p l ≡ value_of past l
  copies_rk q st a f l p t held =
      elim (cases_Bool (is_invalid (state_of h past p l))) [
        | inr was ↦ f.copies l p (invalid_not (state_of h past p l) was)
        | inl gone ↦
            let r = ends_line_of h past q st a p l t in
            elim (r.state.gains gone (valid_not st held)) [
              | inl fetch ↦
                  (f.fetches p r.id l r.one r.kind r.out r.on r.is_kind fetch (full_some past p r.id r.one r.full)).whole
                  (full_count past p r.id r.one r.kind r.full r.is_kind ∙ (fetch_is r.kind fetch).beats)
              | inr make ↦ f.made p r.id l r.one r.out r.on (r.is_kind ∙ ap (λ v. Some v) (make_unique_is r.kind make)) (r.stored make)
            ]
      ]

  -- The event completes a read of the line at the port.
  pub record Receives (e : Event) (p l : ℕ) : Type 0 where
    pub id : ℕ
    pub one : Transaction
    pub out : outstanding h past p Read id ≡ Some one
    pub on : is_on one l ≡ true
    pub reads : is_line_read_transaction one ≡ true
    pub resp : ℕ
    pub last : Bool
    pub word : ℕ
    pub is : e ≡ R p id resp last word

  -- an event leaves the copy, or completes a read of the line, or stores to it
  pub copy_moves : (e : Event) → IsAccepted h (e ∷ past) → (p l : ℕ)
      → (copy_of (e ∷ past) p l ≡ copy_of past p l) ⊎ Receives e p l ⊎ StoresLine e p l
  copy_moves (R q j resp last word) a p l =
      elim (cases_Bool ((nat_eq p q && (length (words_read past p j) == 3)) && is_some_and (transaction_of past p Read j) (λ x. is_on x l && is_line_read_transaction x))) [
        | inr f ↦ inl (rw f refl)
        | inl t ↦
            let parts = and_parts (nat_eq p q && (length (words_read past p j) == 3)) _ t in
            let port = eqb-true p q (and_parts (nat_eq p q) _ parts.0).0 in
            let x = is_some_and-is (transaction_of past p Read j) (λ x. is_on x l && is_line_read_transaction x) parts.1 in
            let m = may_of h past q j resp last word a in
            let out : outstanding h past p Read j ≡ Some m.one = ap (λ v. outstanding h past v Read j) port ∙ m.out in
            let one : Some m.one ≡ Some x.0 = sym m.named ∙ ap (λ v. transaction_of past v Read j) (sym port) ∙ x.1 in
            let both = and_parts (is_on x.0 l) (is_line_read_transaction x.0) x.2 in
            inr (inl (record { id = j; one = x.0; out = out ∙ one; on = both.0; reads = both.1; resp = resp; last = last; word = word; is = ap (λ v. R v j resp last word) (sym port) }))
      ]
  copy_moves (D q addr strobe b line) a p l =
      elim (cases_Bool (nat_eq p q && nat_eq l addr)) [
        | inr f ↦ inl (rw f refl)
        | inl t ↦
            let parts = and_parts (nat_eq p q) (nat_eq l addr) t in
            inr (inr (record {
              strobe = strobe;
              ex = b;
              line = line;
              is = ap (λ v. D v addr strobe b line) (sym (eqb-true p q parts.0)) ∙ ap (λ v. D p v strobe b line) (sym (eqb-true l addr parts.1));
            }))
      ]
  copy_moves _ a p l = inl refl

  pub copies_step : (e : Event) → IsAccepted h (e ∷ past) → DirtyPlaced h past → (l : ℕ) → AreCopiesTrue h (e ∷ past) l
  copies_step (D q addr strobe b line) a f l p held =
      elim (cases_Bool (nat_eq l addr)) [
        | inl t ↦
            let same = eqb-true l addr t in
            subst (λ v. AreCopiesTrue h (D q v strobe b line ∷ past) l) same
            (copies_d q l strobe b line (rw same a) (f.copies l)) p held
        | inr other ↦
            let not_named : (nat_eq p q && nat_eq l addr) ≡ false = rw other (and-false (nat_eq p q)) in
            let was = f.copies l p (λ gone. held (state_d q addr strobe b line p l not_named ∙ gone)) in
            rw (not_named, other) was
      ]
  copies_step (M q c j line) a f l p held =
      elim (value_moves h past (M q c j line) a l) [
        | inl same ↦ f.copies l p held ∙ sym same
        | inr (inl d) ↦ let is = d.is in cc
        | inr (inr (inl d)) ↦ let is = d.is in cc
        | inr (inr (inr (inl by))) ↦ absurd (held (all_empty h past a.0 l (unheld_of h past (M q c j line) l by) p))
        | inr (inr (inr (inr m))) ↦ let is = m.is in cc
      ]
  copies_step (R q j resp last word) a f l p held =
      elim (copy_moves (R q j resp last word) a p l) [
        | inl kept ↦ elim (value_moves h past (R q j resp last word) a l) [
          | inl same ↦ kept ∙ f.copies l p held ∙ sym same
          | inr (inl d) ↦ let is = d.is in cc
          | inr (inr (inl d)) ↦ let is = d.is in cc
          | inr (inr (inr (inl by))) ↦ absurd (held (all_empty h past a.0 l (unheld_of h past (R q j resp last word) l by) p))
          | inr (inr (inr (inr m))) ↦ let is = m.is in cc
        ]
        | inr (inl r) ↦
            absurd (held (stays_empty h past a.0 p Read r.id l r.one r.out r.on (inl r.reads)))
        | inr (inr d) ↦ let is = d.is in cc
      ]
  copies_step (Rk q st) a f l p held =
      elim (cases_Bool (is_named_by_rk past q p l)) [
        | inl t ↦
            let after : state_of h (Rk q st ∷ past) p l ≡ st = rw t refl in
            copies_rk q st a f l p t (λ gone. held (after ∙ gone))
        | inr other ↦ f.copies l p (λ gone. held (rw other gone))
      ]
  copies_step (Mem addr line) a f l p held = absurd (held ((opens_of h past addr line a).unheld p l))
  copies_step e a f l p held =
      elim (state_moves h past e a p l) [
        | inl less ↦ f.copies l p (λ gone. held (less.gone gone))
        | inr up ↦ let is = up.is in cc
      ]
