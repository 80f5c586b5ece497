-- A read of an accepted trace that isn't complete is outstanding.
use Rattle.std.proofs.Common.{◌≡◌, ℕ, ◌≤◌, true, false, ◌&&◌, nat_eq, [], ◌∷◌, slice_get, Option, Some, None, refl, sym, ap, ◌∙◌, arith, inl, inr}
use Rattle.std.proofs.lemmas.Bool.{cases_Bool, and_parts, or_left, or_right, or_parts, eqb-true, eq-eqb}
use Rattle.ace_sysck.proofs.Terms.{Channel, Read, Write, Transaction, Header, Event, R, Rk, B, Wk, Trace, is_ace, completes, completed, acknowledgements, next_complete, transaction_of, transaction_under, is_transaction, ended, is_outstanding, is_completion, is_complete, is_completed, is_completion_event, served_by, IsAccepted}
use Rattle.ace_model.proofs.Rules.Keeps.{accepted_keeps}
use Rattle.ace_model.proofs.Holders.Law.{accepted_holds}
use Rattle.ace_model.proofs.Trace.Growth.{IsIssued, issued-cases}
use Rattle.ace_model.proofs.Trace.Issued.{issued_at, transaction_of-stands, transaction_of-name}
use Rattle.ace_model.proofs.Outstanding.Names.{complete_by_name}
use Rattle.ace_model.proofs.Outstanding.Steps.{other_name_issued, outstanding_after, outstanding_new_one}
use Rattle.ace_model.proofs.General.Options.{Some-injective}
use Rattle.ace_model.proofs.General.Lists.{slice_get-more}
use Rattle.ace_sysck.proofs.BarrierSteps.{hits}

-- a longer trace has no fewer acknowledges
acknowledgements-grow : (e : Event) (past : Trace) (p : ℕ) → acknowledgements past p Read ≤ acknowledgements (e ∷ past) p Read
acknowledgements-grow (Rk q st) past p =
    elim (cases_Bool (nat_eq p q)) [
      | inl t ↦ rw t (omega arith)
      | inr f ↦ rw f (omega arith)
    ]
acknowledgements-grow (Wk q st) past p = omega arith
acknowledgements-grow e past p = omega arith

-- an identifier that waits for its acknowledge is that of a complete read
waiting-complete : (h : Header) (past : Trace) → IsAccepted h past → (p n i : ℕ) → is_ace h p ≡ true → acknowledgements past p Read ≤ n → slice_get (completed past p Read) n ≡ Some i
    → is_complete past p Read i ≡ true
waiting-complete h [] accepted p n i ace low at = cc
waiting-complete h (e ∷ past) accepted p n i ace low at =
    elim (slice_get-more (completed past p Read) (completes e p Read) n i at) [
      | inl old ↦
          let grows = acknowledgements-grow e past p in
          let before : acknowledgements past p Read ≤ n = omega arith in
          let q = (accepted_holds h past accepted.0).queue p n i ace before old in
          or_right (is_completion e p Read i) _ (rw (other_name_issued h past e p Read i q.0 accepted q.1) (waiting-complete h past accepted.0 p n i ace before old))
      | inr new ↦ or_left (is_completion e p Read i) _ (rw new.1 (eq-eqb i i refl))
    ]

-- the transaction of a name is none that it isn't
not_that : (past : Trace) (x : Transaction) → IsIssued past x → (p : ℕ) (c : Channel) (j : ℕ) → ((y : Transaction) → transaction_of past p c j ≡ Some y → y ≡ x → ⊥)
    → is_transaction (transaction_of past p c j) x ≡ false
not_that past x i p c j other = go (transaction_of past p c j) refl
  where
    go : (o : Option Transaction) → transaction_of past p c j ≡ o → is_transaction o x ≡ false
    go None is = refl
    go (Some y) is =
        elim (cases_Bool (nat_eq y.place x.place)) [
          | inl t ↦
              let there = (transaction_of-stands past p c j y is).there in
              absurd (other y is (Some-injective y x (sym there ∙ ap (issued_at past) (eqb-true y.place x.place t) ∙ i.there)))
          | inr f ↦ f
        ]

-- a write is no read
not_write : (past : Trace) (x : Transaction) → IsIssued past x → x.chan ≡ Read → (p : ℕ) (o : Option ℕ) → is_transaction (transaction_under past p Write o) x ≡ false
not_write past x i read p None = refl
not_write past x i read p (Some j) = not_that past x i p Write j (λ y is one.
    let bad : Write ≡ Read = sym (transaction_of-name past p Write j y is).chan ∙ ap (λ (z : Transaction). z.chan) one ∙ read in cc)

-- what an RK of an accepted trace ends is complete
ended-complete : (h : Header) (past : Trace) (q : ℕ) (o : Option ℕ) (x : Transaction) → IsAccepted h past → IsIssued past x → is_ace h q ≡ true → next_complete past q Read ≡ o
    → is_completed past x ≡ false → is_transaction (transaction_under past q Read o) x ≡ false
ended-complete h past q None x accepted i ace next open_still = refl
ended-complete h past q (Some j) x accepted i ace next open_still = not_that past x i q Read j (λ y is one.
    let done : is_completed past y ≡ true = sym (complete_by_name past q Read j y is) ∙ waiting-complete h past accepted q (acknowledgements past q Read) j ace (omega arith) next in
    let bad : true ≡ false = sym done ∙ ap (is_completed past) one ∙ open_still in cc)

-- an event ends no read that it doesn't complete, and that wasn't complete
not_ended : (h : Header) (past : Trace) (e : Event) (x : Transaction) → IsAccepted h (e ∷ past) → IsIssued past x → x.chan ≡ Read → is_completed past x ≡ false → hits past e x ≡ false
    → is_transaction (ended h past e) x ≡ false
not_ended h past (Rk q st) x accepted i read open_still miss =
    let ace = (and_parts _ (is_ace h q) (accepted_keeps h past (Rk q st) accepted).rule_1).1 in
    ended-complete h past q (next_complete past q Read) x accepted.0 i ace refl open_still
not_ended h past (Wk q st) x accepted i read open_still miss = not_write past x i read q (next_complete past q Write)
not_ended h past (R q j resp true word) x accepted i read open_still miss =
    elim (cases_Bool (is_ace h q)) [
      | inl t ↦ rw t refl
      | inr f ↦ rw f miss
    ]
not_ended h past (R q j resp false word) x accepted i read open_still miss = refl
not_ended h past (B q j resp) x accepted i read open_still miss =
    elim (cases_Bool (is_ace h q)) [
      | inl t ↦ rw t refl
      | inr f ↦ rw f miss
    ]
not_ended h past e x accepted i read open_still miss = refl

pub still-outstanding : (h : Header) (past : Trace) (x : Transaction) → IsAccepted h past → IsIssued past x → x.chan ≡ Read → is_completed past x ≡ false
    → is_outstanding h past x ≡ true
still-outstanding h [] x accepted i read open_still = let low = i.before in absurd (omega arith)
still-outstanding h (e ∷ past) x accepted i read open_still =
    elim (issued-cases e past x i) [
      | inl new ↦ outstanding_new_one h past e x new
      | inr old ↦
          let parts = or_parts (is_completion_event e && is_transaction (served_by past e) x) (is_completed past x) open_still in
          outstanding_after h past e x accepted old ∙ rw (still-outstanding h past x accepted.0 old read parts.1, not_ended h past e x accepted old read parts.1 parts.0) refl
    ]
