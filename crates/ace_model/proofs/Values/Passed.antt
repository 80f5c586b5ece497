-- Passed data are the value of their line, or their port has stored since and holds the line dirty.
use Rattle.std.proofs.Common.{◌≡◌, ◌⊎◌, ℕ, Bool, true, false, ◌&&◌, nat_eq, ◌∷◌, Some, None, option_and_then, option_map, refl, sym, ap, subst, ◌∙◌, inl, inr}
use Rattle.std.proofs.lemmas.Bool.{and_from, cases_Bool, cases_eq, eq-eqb}
use Rattle.ace_model.proofs.Terms.{LineState, passes_dirty, Event, Cr, D, Header, Line, is_dirty, Answer, Transaction, Trace, is_some_and, at_point, write_kind, snoop_of, snoop_kind_of}
use Rattle.ace_model.proofs.Terms.{has_outstanding_on, is_outstanding_on, has_memory_write, granted, answers_grant, answer_at, answer_of, has_passed_data}
use Rattle.ace_model.proofs.Terms.{state_of, is_in_make_unique, awaits_store, copy_of, copy_at_answer, passed_data, value_of, may_store, IsAccepted, HasDirtyHolder, IsValueSafe}
use Rattle.ace_model.proofs.Trace.Looks.{has_name-is, same_channel-self}
use Rattle.ace_model.proofs.Trace.Issued.{transaction_of-stands}
use Rattle.ace_model.proofs.Tables.States.{row_is, unique_unsettled, dirty_valid}
use Rattle.ace_model.proofs.Trace.Growth.{some_issued-weaker}
use Rattle.ace_model.proofs.Grants.Stays.{granted_before}
use Rattle.ace_model.proofs.Tables.ReadSnoops.{discards_causes}
use Rattle.ace_model.proofs.Grants.SnoopAnswers.{answer_cases}
use Rattle.ace_model.proofs.Grants.Answers.{new_answer, others_settled, passed_no_make}
use Rattle.ace_model.proofs.Values.Stores.{value_moves, awaits_store-is}
use Rattle.ace_model.proofs.Values.Stays.{may_unique, may_free, copy_at-old, copy_at-new, value_cr}
use Rattle.ace_model.proofs.Grants.Granted.{unwritten_before, has_passed, Passes}
use Rattle.ace_model.proofs.Values.PassedData.{passes_data, answered_once, passes_line}
use Rattle.ace_model.proofs.Values.DirtMoves.{dirt_moves}
use Rattle.ace_model.proofs.Values.Facts.{PassedTrue, DirtyPlaced}
use Rattle.ace_model.proofs.Holders.Law.{accepted_holds}
use Rattle.ace_model.proofs.General.Options.{Some-injective}
use Rattle.ace_model.proofs.General.Booleans.{then_of}

module _ (h : Header) (past : Trace) where
  -- a line that a port may store to is in no MakeUnique of the port
  pub no_make_unique : (p l : ℕ) → may_store h past p l ≡ true → is_in_make_unique h past p l ≡ false
  no_make_unique p l may =
      elim (cases_Bool (is_in_make_unique h past p l)) [
        | inr f ↦ f
        | inl t ↦
            let some : has_outstanding_on h past p l ≡ true = some_issued-weaker past (awaits_store h past p l) (is_outstanding_on h past p l) weaker t in
            let none = may_free h past p l may in cc
      ]
    where
      weaker : (x : Transaction) → awaits_store h past p l x ≡ true → is_outstanding_on h past p l x ≡ true
      weaker x t =
          let w = awaits_store-is h past p l x t in and_from _ _ (and_from _ _ (eq-eqb x.port p w.port) w.on) w.out

  -- a store to it leaves it dirty
  pub store_dirty : (p l strobe : ℕ) (x : Bool) (line : Line) → may_store h past p l ≡ true → is_dirty (state_of h (D p l strobe x line ∷ past) p l) ≡ true
  store_dirty p l strobe x line may =
      let none = no_make_unique p l may in
      let pp : nat_eq p p ≡ true = eq-eqb p p refl in
      let ll : nat_eq l l ≡ true = eq-eqb l l refl in
      rw (pp, ll, none) refl

  -- with the passed copy at its answer, the passed data are there
  pub passed_is : (l : ℕ) (x : Transaction) → granted h past l ≡ Some x → has_passed_data h past x ≡ true → (w : Passes h past l)
      → passed_data h past l ≡ Some (copy_of (at_point w.answer.place past) w.port l)
  passed_is l x g has w =
      then_of (is_some_and (granted h past l) (has_passed_data h past)) _ None (rw g has)
      ∙ ap (option_and_then (copy_at_answer past l)) w.found
      ∙ ap (option_map (λ (a : Answer). copy_of (at_point a.place past) w.port l)) w.is

  -- the granted transaction's passed data are the value, or their port holds the line dirty
  pub passed_true : IsAccepted h past → PassedTrue h past → (l : ℕ) (x : Transaction) → granted h past l ≡ Some x → has_passed_data h past x ≡ true
      → (passed_data h past l ≡ Some (value_of past l)) ⊎ HasDirtyHolder h past l
  passed_true a f l x g has =
      let w = passes_line h past a l x g has in
      elim (f l w.port x w.answer g (has_passed h past x has).unwritten w.is w.dirty) [
        | inl same ↦ inl (passed_is l x g has w ∙ ap (λ v. Some v) same)
        | inr dirty ↦ inr (w.port, dirty)
      ]

  -- so data that a port has passed on are safe
  pub passed_safe : IsAccepted h past → PassedTrue h past → (l r : ℕ) (x : Transaction) (w : Answer) → granted h past l ≡ Some x
      → has_memory_write past x.port x.chan x.id ≡ false → answer_of past r l ≡ Some w → passes_dirty w.resp ≡ true → IsValueSafe h past l
  passed_safe a f l r x w g none is dirty =
      elim (passed_true a f l x g (passes_data h past a l r x w g none is dirty)) [
        | inl same ↦ inr (inr (inl same))
        | inr holder ↦ inr (inl holder)
      ]

  pub passed_step : (e : Event) → IsAccepted h (e ∷ past) → DirtyPlaced h past → PassedTrue h (e ∷ past)
  passed_step e a f l r x w g none is d =
      elim (granted_before h past e l x g) [
        | inr gives ↦ let bad : None ≡ Some w = rw gives at is in cc
        | inl stays ↦
            let o = (accepted_holds h past a.0).grants l x stays.was in
            let before = unwritten_before h past e a x.port x.chan x.id x o.0 none in
            elim (answer_cases past e r l w stays.gives is) [
              | inl old ↦ elim (f.passed l r x w stays.was before old d) [
                | inl same ↦ keeps_value stays.was old same
                | inr dirty ↦ elim (dirt_moves h past e a f.updated r l dirty) [
                  | inl still ↦ inr still
                  | inr (inl u) ↦
                      let yes = passes_data h past a.0 l r x w stays.was before old d in
                      let no = u.none x stays.was in cc
                  | inr (inr c) ↦
                      let once = answered_once h past a.0 e r l w old in
                      absurd (answers_twice c.resp c.st c.answering.under (subst (λ v. answer_at past v r l ≡ None) c.is once))
                ]
              ]
              | inr new ↦
                  let n = new_answer h past e a r l w new in
                  let dirty = ((row_is n.1.kind (state_of h past r l) w.resp n.0 n.1.row).passes d).0 in
                  inl (copy_at-new past e r l w new ∙ f.copies l r (dirty_valid (state_of h past r l) dirty) ∙ sym (value_cr past e r l w new))
            ]
      ]
    where
      answers_twice : (resp : ℕ) (st : LineState) → answers_grant past r l ≡ true → answer_at past (Cr r resp st) r l ≡ None → ⊥
      answers_twice resp st under once =
          let both : (nat_eq r r && answers_grant past r l) ≡ true = and_from _ _ (eq-eqb r r refl) under in
          let bad = rw both at once in cc

      keeps_value : granted h past l ≡ Some x → answer_of past r l ≡ Some w → copy_of (at_point w.place past) r l ≡ value_of past l
          → (copy_of (at_point w.place (e ∷ past)) r l ≡ value_of (e ∷ past) l) ⊎ (is_dirty (state_of h (e ∷ past) r l) ≡ true)
      keeps_value was old same =
          elim (value_moves h past e a l) [
            | inl kept ↦ inl (copy_at-old past e r l w old ∙ same ∙ sym kept)
            | inr (inl p) ↦ elim (cases_eq p.port r) [
              | inl own ↦ inr (subst (λ v. is_dirty (state_of h (e ∷ past) v l) ≡ true) own
                  (rw p.is (store_dirty p.port l p.strobe p.ex p.line p.may)))
              | inr apart ↦ absurd (unique_unsettled (state_of h past p.port l) (may_unique h past p.port l p.may) (others_settled h past a.0 l r p.port x w was old d apart))
            ]
            | inr (inr (inl m)) ↦
                let one : m.made.one ≡ x = Some-injective m.made.one x (sym m.made.stands ∙ was) in
                absurd (passed_no_make h past a.0 l r x w was old d (ap snoop_of (sym one) ∙ ap (λ v. snoop_kind_of v (write_kind m.made.one)) m.made.kind))
            | inr (inr (inr (inr m))) ↦ let bad : None ≡ Some x = sym (m.ungranted l) ∙ was in cc
            | inr (inr (inr (inl (inr m)))) ↦
                let one : m.by.one ≡ x = Some-injective m.by.one x (sym m.by.stands ∙ was) in
                absurd (passed_no_make h past a.0 l r x w was old d (ap snoop_of (sym one) ∙ discards_causes m.by.one m.by.discards))
            | inr (inr (inr (inl (inl m)))) ↦
                let one : m.by.one ≡ x = Some-injective m.by.one x (sym m.by.stands ∙ was) in
                let name = has_name-is m.by.one m.port m.chan m.id (transaction_of-stands past m.port m.chan m.id m.by.one m.by.named).named in
                let now : has_memory_write (e ∷ past) m.by.one.port m.by.one.chan m.by.one.id ≡ true =
                rw (m.is, eq-eqb m.by.one.port m.port name.port, name.chan, same_channel-self m.chan, eq-eqb m.by.one.id m.id name.id) refl in
                let own = subst (λ (y : Transaction). has_memory_write (e ∷ past) y.port y.chan y.id ≡ true) one now in cc
          ]
