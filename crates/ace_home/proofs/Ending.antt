-- A write that has had its B is outstanding until an event of its line ends it; and a port that holds a line holds it until an event of the line.
use Rattle.std.proofs.Common.{◌≡◌, ℕ, Bool, true, false, not, ◌&&◌, ◌==◌, if◌then◌else◌, nat_eq, ◌∷◌, Option, Some, None, refl, sym, ap, subst, ◌∙◌, inl, inr}
use Rattle.std.proofs.lemmas.Bool.{and_from, and_parts, cases_Bool, eqb-true, false_from_ne_true, or_left}
use Rattle.ace_event.specs.declared.event.Channel.TheVariants.{Read, Write}
use Rattle.ace_event.specs.declared.event.Event.{Event}
use Rattle.ace_event.specs.declared.event.Event.TheVariants.{B, D, G, M, R, Rk, Wk}
use Rattle.ace_event.specs.declared.header.Header.{Header}
use Rattle.ace_tables.specs.States.{is_invalid}
use Rattle.ace_model.specs.declared.transactions.Transaction.{Transaction}
use Rattle.ace_model.specs.Accepted.{IsAccepted}
use Rattle.ace_model.specs.States.{awaits_wack, is_in_make_unique, owes_wack, state_of}
use Rattle.ace_model.specs.Trace.{Trace}
use Rattle.ace_model.specs.Transactions.{acknowledged, ended, has_name, is_complete, is_make_unique_on, is_on, is_outstanding, is_outstanding_on, is_read, is_transaction, outstanding}
use Rattle.ace_model.proofs.Outstanding.Steps.{outstanding_after}
use Rattle.ace_model.proofs.Rules.Keeps.{accepted_keeps}
use Rattle.ace_model.proofs.Trace.Growth.{issued-old, some_issued-found, some_issued-is}
use Rattle.ace_model.proofs.Trace.Issued.{outstanding-named, same_place}
use Rattle.ace_model.proofs.Trace.Outstanding.{acknowledged_is, ends_lite, ends_lite_write}
use Rattle.ace_portck.specs.declared.target.Progress.{Progress}
use Rattle.ace_portck.specs.Pending.{renewed, transferred}
use Rattle.ace_portck.specs.Targets.{line_in, progress_of}
use Rattle.ace_portck.proofs.Renewed.{renewed_is}
use Rattle.ace_lineck.proofs.OffLine.{ace-of_rk, ace-of_wk, read-of}
use Rattle.ace_lineck.proofs.OnLine.{line-transaction, outstanding-of}
use Rattle.ace_home.proofs.Outstanding.{of-port, out-own}

-- ---- what ends it ------------------------------------------------------------------------------------

module _ (h : Header) (past : Trace) (l : ℕ) (x : Transaction) (out : outstanding h past x.port x.chan x.id ≡ Some x) (on : is_on x l ≡ true) where
  -- an event that ends a transaction of the line is one of the line
  ends-on-line : (e : Event) → IsAccepted h (e ∷ past) → (z : Transaction) → ended h past e ≡ Some z → z.place ≡ x.place → line_in h past e ≡ Some l
  ends-on-line (Rk q st) a z is same =
      let n = acknowledged_is past q Read z is in
      let one = same_place past q x.port Read x.chan n.id x.id z x n.named (outstanding-named h past x.port x.chan x.id x out) same in
      let ace = ace-of_rk h past q st a in
      rw ace (line-transaction h past (acknowledged past q Read) l (rw is (subst (λ (v : Transaction). is_on v l ≡ true) (sym one) on)))
  ends-on-line (Wk q st) a z is same =
      let n = acknowledged_is past q Write z is in
      let one = same_place past q x.port Write x.chan n.id x.id z x n.named (outstanding-named h past x.port x.chan x.id x out) same in
      let ace = ace-of_wk h past q st a in
      rw ace (line-transaction h past (acknowledged past q Write) l (rw is (subst (λ (v : Transaction). is_on v l ≡ true) (sym one) on)))
  ends-on-line (R q j resp last word) a z is same =
      let n = (ends_lite h past q j resp last word z is).1 in
      let one = same_place past q x.port Read x.chan j x.id z x n (outstanding-named h past x.port x.chan x.id x out) same in
      let there = sym (read-of h past q j resp last word a) ∙ n in
      line-transaction h past (outstanding h past q Read j) l (rw there (subst (λ (v : Transaction). is_on v l ≡ true) (sym one) on))
  ends-on-line (B q j resp) a z is same =
      let n = (ends_lite_write h past q j resp z is).1 in
      let one = same_place past q x.port Write x.chan j x.id z x n (outstanding-named h past x.port x.chan x.id x out) same in
      let m = outstanding-of h past q Write j _ (and_parts (nat_eq resp 0) _ (accepted_keeps h past (B q j resp) a).rule_26).1 in
      let there = sym m ∙ n in
      line-transaction h past (outstanding h past q Write j) l (rw there (subst (λ (v : Transaction). is_on v l ≡ true) (sym one) on))
  ends-on-line e a z is same = cc

  pub lasts-off : (e : Event) → IsAccepted h (e ∷ past) → (line_in h past e ≡ Some l → ⊥) → is_transaction (ended h past e) x ≡ false
  lasts-off e a off = false_from_ne_true (is_transaction (ended h past e) x) (λ t. by (ended h past e) refl t)
    where
      by : (o : Option Transaction) → ended h past e ≡ o → is_transaction o x ≡ true → ⊥
      by None is t = cc
      by (Some z) is t = off (ends-on-line e a z is (eqb-true z.place x.place t))

-- ---- it stays complete -------------------------------------------------------------------------------

completed-if : (b : Bool) (one other : Progress) → one.complete ≡ true → other.complete ≡ true → (if b then one else other).complete ≡ true
completed-if true one other first second = first
completed-if false one other first second = second

complete-on : (e : Event) (v : Progress) → v.complete ≡ true → (renewed e v).complete ≡ true
complete-on (R q i resp last word) v t = completed-if (has_name v.transaction q Read i) (transferred resp last v) v (or_left v.complete last t) t
complete-on (B q i resp) v t = completed-if (has_name v.transaction q Write i) (record v { complete = true }) v refl t
complete-on (G q c i) v t = completed-if (has_name v.transaction q c i) (record v { granted = true }) v t t
complete-on (M q c i line) v t = completed-if (has_name v.transaction q c i) (record v { written = true }) v t t
complete-on (D q addr strobe y line) v t =
    completed-if ((v.transaction.port == q) && is_make_unique_on v.transaction addr && v.complete) (record v { stored = true }) v t t
complete-on e v t = t

-- ---- what a port has to acknowledge ------------------------------------------------------------------

module _ (h : Header) (past : Trace) (e : Event) (a : IsAccepted h (e ∷ past)) (q l : ℕ) where
  owes-still : ((x : Transaction) → outstanding h past x.port x.chan x.id ≡ Some x → is_on x l ≡ true → is_transaction (ended h past e) x ≡ false)
      → owes_wack h past q l ≡ true → owes_wack h (e ∷ past) q l ≡ true
  owes-still lasts owes =
      let y = some_issued-is past (awaits_wack h past q l) owes in
      let x = y.0 in
      let two = and_parts (is_outstanding_on h past q l x && not (is_read x.chan)) (is_complete past x.port x.chan x.id) y.2 in
      let one = and_parts (is_outstanding_on h past q l x) (not (is_read x.chan)) two.0 in
      let is_out = and_parts ((x.port == q) && is_on x l) (is_outstanding h past x) one.0 in
      let on = (and_parts (x.port == q) (is_on x l) is_out.0).1 in
      let out : outstanding h past x.port x.chan x.id ≡ Some x = out-own h past a.0 x.port x (of-port h past x y.1 is_out.1) in
      let still : is_outstanding h (e ∷ past) x ≡ true = outstanding_after h past e x a y.1 ∙ and_from _ _ is_out.1 (ap not (lasts x out on)) in
      let complete : is_complete (e ∷ past) x.port x.chan x.id ≡ true =
      ap (λ (v : Progress). v.complete) (renewed_is h past x out e a) ∙ complete-on e (progress_of h past x) two.1 in
      some_issued-found (e ∷ past) (awaits_wack h (e ∷ past) q l) x.place x (issued-old e past x y.1).there
      (and_from _ _ (and_from _ _ (and_from _ _ is_out.0 still) one.1) complete)

  -- it has it still after an event of another line
  pub owes-off : (line_in h past e ≡ Some l → ⊥) → owes_wack h past q l ≡ true → owes_wack h (e ∷ past) q l ≡ true
  owes-off off = owes-still (λ x out on. lasts-off h past l x out on e a off)

  -- and after one with which none ends
  pub owes-calm : ended h past e ≡ None → owes_wack h past q l ≡ true → owes_wack h (e ∷ past) q l ≡ true
  owes-calm none = owes-still (λ x out on. ap (λ o. is_transaction o x) none)

-- ---- what a port holds -------------------------------------------------------------------------------

-- a store leaves a line that is held
pub holds-store : (h : Header) (past : Trace) (r addr strobe : ℕ) (x : Bool) (line : _) (q l : ℕ) → is_invalid (state_of h past q l) ≡ false
    → is_invalid (state_of h (D r addr strobe x line ∷ past) q l) ≡ false
holds-store h past r addr strobe x line q l holds =
    elim (cases_Bool ((q == r) && (l == addr) && not (is_in_make_unique h past q l))) [
      | inl t ↦ rw t refl
      | inr f ↦ rw f holds
    ]
