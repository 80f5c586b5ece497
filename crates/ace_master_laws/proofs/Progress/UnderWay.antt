-- What an event leaves of how far the next operation of a port has come, that is gentle and neither issues for it nor ends it.
use Rattle.std.proofs.Common.{◌≡◌, ◌≤◌, ◌⊎◌, ℕ, Bool, true, false, not, ◌∷◌, length, filter, slice_get, Some, inl, inr, refl, sym, ap, subst, ◌∙◌, arith}
use Rattle.std.proofs.lemmas.Bool.{and_parts, cases_Bool}
use Rattle.ace_event.specs.declared.event.Event.{Event}
use Rattle.ace_event.specs.declared.header.Header.{Header}
use Rattle.ace_model.specs.declared.plans.Op.{Op}
use Rattle.ace_model.specs.declared.transactions.Transaction.{Transaction}
use Rattle.ace_model.specs.Accepted.{IsAccepted}
use Rattle.ace_model.specs.Plans.{Plan}
use Rattle.ace_model.specs.Progress.{updates_memory}
use Rattle.ace_model.specs.Trace.{Trace}
use Rattle.ace_model.specs.Transactions.{ended, is_outstanding, is_transaction}
use Rattle.ace_model.proofs.Outstanding.Steps.{outstanding_after}
use Rattle.ace_model.proofs.Trace.Growth.{IsIssued}
use Rattle.ace_runs.specs.Segments.{segment, silent_moves}
use Rattle.ace_runs.proofs.NeverStuck.Phases.CalmEvents.{segment-of-port}
use Rattle.ace_master_laws.specs.Orderly.{IsUnderWay, is_cleared, is_settled, owns_line}
use Rattle.ace_master_laws.proofs.Lines.Gentle.{IsGentle, cleared-stays, settled-stays}
use Rattle.ace_master_laws.proofs.Lines.HeldLines.{others-not-more}

-- what is outstanding after an event was so before, if it was issued
pub was-outstanding : (h : Header) (past : Trace) (e : Event) (x : Transaction) → IsAccepted h (e ∷ past) → IsIssued past x → is_outstanding h (e ∷ past) x ≡ true
    → is_outstanding h past x ≡ true
was-outstanding h past e x a i out =
    (and_parts (is_outstanding h past x) (not (is_transaction (ended h past e) x)) (sym (outstanding_after h past e x a i) ∙ out)).0

-- The event leaves the port's segment, and brings no line in.
pub record IsStill (h : Header) (past : Trace) (p : ℕ) (e : Event) : Type 0 where
  pub accepted : IsAccepted h (e ∷ past)
  pub same : segment (e ∷ past) p ≡ segment past p
  pub silent : silent_moves (e ∷ past) p ≡ silent_moves past p
  pub gentle : IsGentle h past p e

module _ (plan : Plan) (past : Trace) (p : ℕ) (e : Event) (op : Op) (s : IsStill plan.header past p e) (u : IsUnderWay plan past p op) where
  abbrev h : Header
  h = plan.header

  there-before : (k : ℕ) (x : Transaction) → slice_get (segment (e ∷ past) p) k ≡ Some x → slice_get (segment past p) k ≡ Some x
  there-before k x there = ap (λ l. slice_get l k) (sym s.same) ∙ there

  out-before : (k : ℕ) (x : Transaction) → slice_get (segment past p) k ≡ Some x → is_outstanding h (e ∷ past) x ≡ true → is_outstanding h past x ≡ true
  out-before k x there out = was-outstanding h past e x s.accepted (segment-of-port past p k x there).there out

  silent-after : (silent_moves (e ∷ past) p ≡ 0) ⊎ ((silent_moves (e ∷ past) p ≡ 1) × (is_cleared plan.ways h (e ∷ past) p op ≡ true))
  silent-after =
      elim u.silent [
        | inl none ↦ inl (s.silent ∙ none)
        | inr one ↦ inr (s.silent ∙ one.0, cleared-stays h past p e s.gentle plan.ways op one.1)
      ]

  -- The operation has come as far, where what the event ends of it is settled.
  pub still-under-way : ((k : ℕ) (x : Transaction) → slice_get (segment past p) k ≡ Some x → is_outstanding h past x ≡ true → is_outstanding h (e ∷ past) x ≡ false
      → is_settled plan.ways h (e ∷ past) p op x ≡ true) → IsUnderWay plan (e ∷ past) p op
  still-under-way ends =
      record {
        asked = λ k x there. u.asked k x (there-before k x there);
        settled = λ k x there out. let before = there-before k x there in elim (cases_Bool (is_outstanding h past x)) [
          | inl was ↦ ends k x before was out
          | inr not_now ↦ settled-stays h past p e s.gentle plan.ways op x (u.settled k x before not_now)
        ];
        silent = silent-after;
        one_update = subst (λ l. length (filter updates_memory l) ≤ 1) (sym s.same) u.one_update;
        one_owner = subst (λ l. length (filter owns_line l) ≤ 1) (sym s.same) u.one_owner;
        room = λ k x there out takes.
            let before = there-before k x there in
            let low = u.room k x before (out-before k x before out) takes in
            let few = others-not-more h past e p x.addr (λ l apart inv. s.gentle.raises l inv) in
            omega (arith, low, few);
        apart = λ j k x y at_x at_y brings updates out.
            let before = there-before j x at_x in
            let later = there-before k y at_y in
            let none = u.apart j k x y before later brings updates (out-before j x before out) in
            false-after (is_outstanding h (e ∷ past) y) (is_outstanding h past y) (out-before k y later) none;
        absent = λ k x there out updates l used.
            let before = there-before k x there in s.gentle.raises l (u.absent k x before (out-before k x before out) updates l used);
      }
    where
      false-after : (a b : Bool) → (a ≡ true → b ≡ true) → b ≡ false → a ≡ false
      false-after true b up f = let bad : false ≡ true = sym f ∙ up refl in cc
      false-after false b up f = refl
