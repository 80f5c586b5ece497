-- A complete transaction of an ACE port that waits for its RK or WK is outstanding, and has had its last R or its B. So what is no
-- longer outstanding is complete.
use Rattle.std.proofs.Common.{◌≡◌, ℕ, ◌≤◌, true, false, not, ◌&&◌, nat_eq, nat_lt, [], ◌∷◌, Some, slice_get, le_refl, refl, sym, ap, subst, ◌∙◌, inl, inr, arith}
use Rattle.std.proofs.lemmas.Bool.{and_parts, or_left, or_right, cases_Bool, eq-eqb, eqb-true, not-false}
use Rattle.ace_model.proofs.Terms.{Event, R, Rk, B, Wk, Channel, Read, Write, Header, Transaction, Trace, is_ace, ended, is_transaction, transaction_of, outstanding, is_outstanding}
use Rattle.ace_model.proofs.Terms.{acknowledgements, acknowledged, completed, completes, is_completion, is_complete, served_by, is_completion_event, is_completed, IsAccepted}
use Rattle.ace_model.proofs.General.Booleans.{above_count}
use Rattle.ace_model.proofs.General.Lists.{slice_get-more}
use Rattle.ace_model.proofs.General.Options.{Some-injective, is_some_and-is}
use Rattle.ace_model.proofs.Holders.Law.{accepted_holds}
use Rattle.ace_model.proofs.Rules.Keeps.{accepted_keeps}
use Rattle.ace_model.proofs.Trace.Issued.{issued_at, transaction_of-stands}
use Rattle.ace_model.proofs.Trace.Growth.{IsIssued, issued-cases}
use Rattle.ace_model.proofs.Trace.Outstanding.{acknowledged_is}
use Rattle.ace_model.proofs.Trace.WriteQueue.{write_queue}
use Rattle.ace_model.proofs.Outstanding.Names.{complete_by_name}
use Rattle.ace_model.proofs.Outstanding.Steps.{other_name_issued, outstanding_after, outstanding_new_one}

-- no fewer acknowledges later
acknowledged_before : (e : Event) (past : Trace) (p n : ℕ) → acknowledgements (e ∷ past) p Read ≤ n → acknowledgements past p Read ≤ n
acknowledged_before (Rk q st) past p n low = above_count (nat_eq p q) (acknowledgements past p Read) n low
acknowledged_before _ past p n low = low

read_waits : (h : Header) (past : Trace) (p n i : ℕ) → IsAccepted h past → is_ace h p ≡ true → acknowledgements past p Read ≤ n
    → slice_get (completed past p Read) n ≡ Some i → is_complete past p Read i ≡ true
read_waits h [] p n i a ace low is = cc
read_waits h (e ∷ past) p n i a ace low is =
    elim (slice_get-more (completed past p Read) (completes e p Read) n i is) [
      | inr new ↦
          let now : is_completion e p Read i ≡ true = rw new.1 (eq-eqb i i refl) in
          or_left (is_completion e p Read i) _ now
      | inl old ↦
          let earlier = acknowledged_before e past p n low in
          let out = (accepted_holds h past a.0).queue p n i ace earlier old in
          let other = other_name_issued h past e p Read i out.0 a out.1 in
          let was = read_waits h past p n i a.0 ace earlier old in
          or_right (is_completion e p Read i) _ (rw (other, was) refl)
    ]

-- what waits
pub waits_is : (h : Header) (past : Trace) (p : ℕ) (c : Channel) (n i : ℕ) → IsAccepted h past → is_ace h p ≡ true → acknowledgements past p c ≤ n
    → slice_get (completed past p c) n ≡ Some i → (x : Transaction) × (outstanding h past p c i ≡ Some x) × (is_complete past p c i ≡ true)
waits_is h past p Read n i a ace low is =
    let q = (accepted_holds h past a).queue p n i ace low is in (q.0, q.1, read_waits h past p n i a ace low is)
waits_is h past p Write n i a ace low is = (write_queue h past a p ace).stands n i low is

module _ (h : Header) (past : Trace) (x : Transaction) (before : IsIssued past x) where
  -- an acknowledge ends what is complete
  acknowledged_complete : (q : ℕ) (c : Channel) → IsAccepted h past → is_ace h q ≡ true → is_transaction (acknowledged past q c) x ≡ true → is_completed past x ≡ true
  acknowledged_complete q c a ace t =
      let y = is_some_and-is (acknowledged past q c) (λ z. nat_eq z.place x.place) t in
      let n = acknowledged_is past q c y.0 y.1 in
      let w = waits_is h past q c (acknowledgements past q c) n.id a ace (le_refl (acknowledgements past q c)) n.next in
      let s = transaction_of-stands past q c n.id y.0 n.named in
      let same : y.0 ≡ x = Some-injective y.0 x (sym s.there ∙ ap (issued_at past) (eqb-true y.0.place x.place y.2) ∙ before.there) in
      subst (λ (v : Transaction). is_completed past v ≡ true) same (sym (complete_by_name past q c n.id y.0 n.named) ∙ w.2)

  ends_complete : (e : Event) → IsAccepted h (e ∷ past) → is_transaction (ended h past e) x ≡ true → is_completed (e ∷ past) x ≡ true
  ends_complete (R q j resp last word) a t =
      elim (cases_Bool (last && not (is_ace h q))) [
        | inr f ↦ let none : false ≡ true = rw f at t in cc
        | inl l ↦
            let one : is_transaction (transaction_of past q Read j) x ≡ true = rw l at t in
            or_left _ (is_completed past x) (rw ((and_parts last (not (is_ace h q)) l).0, one) refl)
      ]
  ends_complete (B q j resp) a t =
      elim (cases_Bool (is_ace h q)) [
        | inl l ↦ let none : false ≡ true = rw l at t in cc
        | inr f ↦ let one : is_transaction (transaction_of past q Write j) x ≡ true = rw f at t in or_left _ (is_completed past x) one
      ]
  ends_complete (Rk q st) a t =
      acknowledged_complete q Read a.0 (and_parts (nat_lt q h.ports) (is_ace h q) (accepted_keeps h past (Rk q st) a).rule_1).1 t
  ends_complete (Wk q st) a t =
      acknowledged_complete q Write a.0 (and_parts (nat_lt q h.ports) (is_ace h q) (accepted_keeps h past (Wk q st) a).rule_1).1 t
  ends_complete e a t = cc

-- what is no longer outstanding is complete
pub ended_complete : (h : Header) (past : Trace) (x : Transaction) → IsAccepted h past → IsIssued past x → is_outstanding h past x ≡ false → is_completed past x ≡ true
ended_complete h [] x a i out = let b = i.before in absurd (omega arith)
ended_complete h (e ∷ past) x a i out =
    elim (issued-cases e past x i) [
      | inl new ↦ let yes = outstanding_new_one h past e x new in cc
      | inr old ↦
          let after = outstanding_after h past e x a old in
          elim (cases_Bool (is_outstanding h past x)) [
            | inr gone ↦ or_right (is_completion_event e && is_transaction (served_by past e) x) (is_completed past x) (ended_complete h past x a.0 old gone)
            | inl was ↦
                let ends : not (is_transaction (ended h past e) x) ≡ false = rw was at (sym after ∙ out) in
                ends_complete h past x old e a (not-false (is_transaction (ended h past e) x) ends)
          ]
    ]
