-- A line that a port holds is shareable: a transaction of it was issued that isn't NoSnoop, and then each one is.
use Rattle.std.proofs.Common.{◌≡◌, ℕ, true, false, nat_eq, [], ◌∷◌, length, Some, refl, sym, ap, ◌∙◌, inl, inr}
use Rattle.std.proofs.lemmas.Bool.{and_parts, cases_Bool, eqb-true}
use Rattle.ace_model.proofs.Terms.{Read, LineState, I, Header, Event, Rk, is_invalid, Transaction, Trace, is_line, is_on, issued, each_issued, state_of, k8, is_no_snoop, is_used_alike, fits_line, IsAccepted}
use Rattle.ace_model.proofs.Trace.Growth.{IsIssued, issued-old, issued-cases, named-issued, each_issued-at}
use Rattle.ace_model.proofs.Rules.Keeps.{accepted_keeps}
use Rattle.ace_model.proofs.Tables.States.{is_invalid-is}
use Rattle.ace_model.proofs.Holders.Kept.{LessenedAt}
use Rattle.ace_model.proofs.Holders.Acknowledge.{is_named_by_rk}
use Rattle.ace_model.proofs.Holders.RestsOn.{accepted_keeps_each}
use Rattle.ace_model.proofs.Holders.Lessened.{lessened_by}
use Rattle.ace_model.proofs.Holders.Rises.{ends_line_of}
use Rattle.ace_model.proofs.General.Options.{Some-injective, is_none_or-at}
use Rattle.ace_model.proofs.General.Booleans.{implies-at, same_test-at}
use Rattle.ace_model.proofs.Tables.ReadSnoops.{takes_snoops, read_snoops}

-- Transactions of one line are all NoSnoop, or none is.
abbrev pub UsedAlike : Trace → Type 0
UsedAlike past =
    (x y : Transaction) (l : ℕ) → IsIssued past x → IsIssued past y → is_on x l ≡ true → is_on y l ≡ true → is_no_snoop x ≡ is_no_snoop y

-- the new transaction is like an earlier one of its line
alike_new : (h : Header) (past : Trace) (e : Event) (x y : Transaction) (l : ℕ) → k8 h past e ≡ true → issued (length past) e ≡ Some x → IsIssued past y
    → is_on x l ≡ true → is_on y l ≡ true → is_no_snoop x ≡ is_no_snoop y
alike_new h past e x y l k new old on_x on_y =
    let fits = is_none_or-at (issued (length past) e) (fits_line past) x k new in
    let parts = and_parts (is_line x) (nat_eq x.addr l) on_x in
    let each = implies-at (is_line x) (each_issued past (is_used_alike x)) fits parts.0 in
    let alike = each_issued-at past (is_used_alike x) y.place y each old.there in
    let here : is_on y x.addr ≡ true = rw (eqb-true x.addr l parts.1) on_y in
    same_test-at (is_no_snoop x) (is_no_snoop y) (implies-at (is_on y x.addr) _ alike here)

pub used_alike : (h : Header) (past : Trace) → IsAccepted h past → UsedAlike past
used_alike h [] a x y l is_x is_y on_x on_y = let none = is_x.there in cc
used_alike h (e ∷ past) a x y l is_x is_y on_x on_y =
    let k : k8 h past e ≡ true = (accepted_keeps h past e a).rule_8 in
    elim (issued-cases e past x is_x) [
      | inl new_x ↦ elim (issued-cases e past y is_y) [
        | inl new_y ↦ let same : x ≡ y = Some-injective x y (sym new_x ∙ new_y) in ap is_no_snoop same
        | inr old_y ↦ alike_new h past e x y l k new_x old_y on_x on_y
      ]
      | inr old_x ↦ elim (issued-cases e past y is_y) [
        | inl new_y ↦ sym (alike_new h past e y x l k new_y old_x on_y on_x)
        | inr old_y ↦ used_alike h past a.0 x y l old_x old_y on_x on_y
      ]
    ]

-- A transaction of the line was issued that isn't NoSnoop.
pub record IsShareable (past : Trace) (l : ℕ) : Type 0 where
  pub one : Transaction
  pub stands : IsIssued past one
  pub on : is_on one l ≡ true
  pub snoops : is_no_snoop one ≡ false

later : (e : Event) (past : Trace) (l : ℕ) → IsShareable past l → IsShareable (e ∷ past) l
later e past l s = record { one = s.one; stands = issued-old e past s.one s.stands; on = s.on; snoops = s.snoops }

-- A line that a port holds is shareable.
abbrev pub HeldIsShareable : Header → Trace → Type 0
HeldIsShareable h past = (p l : ℕ) → is_invalid (state_of h past p l) ≡ false → IsShareable past l

-- an event that lessens what the ports hold
shareable_kept : (h : Header) (past : Trace) (e : Event) → ((l : ℕ) → LessenedAt h past e l) → HeldIsShareable h past → HeldIsShareable h (e ∷ past)
shareable_kept h past e less f p l held =
    elim (cases_Bool (is_invalid (state_of h past p l))) [
      | inl none ↦
          let bad = rw ((less l p).gone (is_invalid-is (state_of h past p l) none)) at held in cc
      | inr was ↦ later e past l (f p l was)
    ]

-- the end of a read
shareable_rk : (h : Header) (past : Trace) (q : ℕ) (st : LineState) → IsAccepted h (Rk q st ∷ past) → HeldIsShareable h past → HeldIsShareable h (Rk q st ∷ past)
shareable_rk h past q st a s p l held =
    elim (cases_Bool (is_named_by_rk past q p l)) [
      | inr other ↦ later (Rk q st) past l (s p l (rw other at held))
      | inl t ↦
          let d = ends_line_of h past q st a p l t in
          let some : is_invalid st ≡ false = rw t at held in
          elim d.state.kept [
            | inl none ↦ let bad : is_invalid st ≡ true = ap is_invalid none in cc
            | inr more ↦ elim more [
              | inl was ↦ later (Rk q st) past l (s p l was)
              | inr taken ↦
                  record {
                    one = d.one;
                    stands = issued-old (Rk q st) past d.one (named-issued past p Read d.id d.one d.named);
                    on = d.on;
                    snoops = read_snoops d.one d.kind d.is_kind (takes_snoops d.kind _ _ taken);
                  }
            ]
          ]
    ]

shareable_step : (h : Header) (past : Trace) (e : Event) → IsAccepted h (e ∷ past) → HeldIsShareable h past → HeldIsShareable h (e ∷ past)
shareable_step h past (Rk q st) a s = shareable_rk h past q st a s
shareable_step h past e a s = shareable_kept h past e (lessened_by h past e (accepted_keeps_each h past e a) refl) s

pub held_is_shareable : (h : Header) (past : Trace) → IsAccepted h past → HeldIsShareable h past
held_is_shareable h [] a = λ p l held. cc
held_is_shareable h (e ∷ past) a = shareable_step h past e a (held_is_shareable h past a.0)

-- no port holds a line with a transaction that is NoSnoop
pub no_snoop_unheld : (h : Header) (past : Trace) (x : Transaction) (p l : ℕ) → IsAccepted h past → IsIssued past x → is_on x l ≡ true → is_no_snoop x ≡ true
    → state_of h past p l ≡ I
no_snoop_unheld h past x p l a is on unshared =
    elim (cases_Bool (is_invalid (state_of h past p l))) [
      | inl none ↦ is_invalid-is (state_of h past p l) none
      | inr held ↦
          let s = held_is_shareable h past a p l held in
          let alike = used_alike h past a x s.one l is s.stands on s.on in
          let other = s.snoops in cc
    ]
