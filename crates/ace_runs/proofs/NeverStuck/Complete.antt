-- A complete transaction that is outstanding is one of an ACE port, which is enabled by step 4: at an ACE-Lite port the last R or the B ends it.
use Rattle.std.proofs.Common.{◌≡◌, ◌≢◌, ℕ, true, false, not, ◌&&◌, ◌==◌, [], ◌∷◌, length, Some, refl, subst, inl, inr}
use Rattle.std.proofs.lemmas.Bool.{and_parts, or_cases, or_left, cases_Bool, eqb-true}
use Rattle.ace_event.specs.declared.event.Channel.{Channel}
use Rattle.ace_event.specs.declared.event.Channel.TheVariants.{Read, Write}
use Rattle.ace_event.specs.declared.event.Event.{Event}
use Rattle.ace_event.specs.declared.event.Event.TheVariants.{B, R}
use Rattle.ace_event.specs.declared.header.Header.{Header}
use Rattle.ace_model.specs.declared.transactions.Transaction.{Transaction}
use Rattle.ace_model.specs.Plans.{Plan}
use Rattle.ace_model.specs.Trace.{Trace}
use Rattle.ace_model.specs.Transactions.{ended, is_ace, is_complete, is_completion, is_named, issued, outstanding, transaction_of}
use Rattle.ace_model.proofs.Trace.Issued.{outstanding-named, outstanding-origin}
use Rattle.ace_model.proofs.Trace.WriteQueue.{issue_completes}
use Rattle.ace_runs.specs.MasterSteps.{has_due, is_finished, may_acknowledge}
use Rattle.ace_runs.specs.Operations.{next_operation}
use Rattle.ace_runs.specs.Steps.{AreSteps, is_enabled_by}
use Rattle.ace_runs.proofs.Turns.{steps-accepted}
use Rattle.ace_runs.proofs.NeverStuck.Acknowledges.{complete-due}

-- what completes a transaction and leaves it outstanding is of an ACE port
now-ace : (h : Header) (e : Event) (past : Trace) (p : ℕ) (c : Channel) (i : ℕ) (x : Transaction) → transaction_of past p c i ≡ Some x
    → ((z : Transaction) → ended h past e ≡ Some z → z.place ≢ x.place) → is_completion e p c i ≡ true → is_ace h p ≡ true
now-ace h (R q j resp last word) past p Write i x named lasts now = cc
now-ace h (R q j resp last word) past p Read i x named lasts now =
    elim (cases_Bool ((p == q) && last)) [
      | inr other ↦ let bad : false ≡ true = rw other at now in cc
      | inl t ↦
          let parts = and_parts (p == q) last t in
          let port = eqb-true p q parts.0 in
          let id : i ≡ j = eqb-true i j (rw t at now) in
          elim (cases_Bool (is_ace h p)) [
            | inl ace ↦ ace
            | inr lite ↦
                let there : transaction_of past q Read j ≡ Some x = subst (λ k. transaction_of past q Read k ≡ Some x) id (subst (λ r. transaction_of past r Read i ≡ Some x) port named) in
                let lite_q : is_ace h q ≡ false = subst (λ r. is_ace h r ≡ false) port lite in
                absurd (lasts x (rw (parts.1, lite_q) there) refl)
          ]
    ]
now-ace h (B q j resp) past p Read i x named lasts now = cc
now-ace h (B q j resp) past p Write i x named lasts now =
    elim (cases_Bool (p == q)) [
      | inr other ↦ let bad : false ≡ true = rw other at now in cc
      | inl t ↦
          let port = eqb-true p q t in
          let id : i ≡ j = eqb-true i j (rw t at now) in
          elim (cases_Bool (is_ace h p)) [
            | inl ace ↦ ace
            | inr lite ↦
                let there : transaction_of past q Write j ≡ Some x = subst (λ k. transaction_of past q Write k ≡ Some x) id (subst (λ r. transaction_of past r Write i ≡ Some x) port named) in
                let lite_q : is_ace h q ≡ false = subst (λ r. is_ace h r ≡ false) port lite in
                absurd (lasts x (rw lite_q there) refl)
          ]
    ]
now-ace h e past p c i x named lasts now = cc

complete-ace : (h : Header) (past : Trace) (p : ℕ) (c : Channel) (i : ℕ) (x : Transaction) → outstanding h past p c i ≡ Some x → is_complete past p c i ≡ true → is_ace h p ≡ true
complete-ace h [] p c i x o done = cc
complete-ace h (e ∷ past) p c i x o done =
    elim (outstanding-origin h past e p c i x o) [
      | inl new ↦
          let none = issue_completes (length past) e x p c i new.0 in
          let bad : false ≡ true = rw (new.0, new.1, none) at done in cc
      | inr old ↦ elim (or_cases (is_completion e p c i) _ done) [
        | inl now ↦ now-ace h e past p c i x (outstanding-named h past p c i x old.was) old.lasts now
        | inr earlier ↦ complete-ace h past p c i x old.was (and_parts (not (is_named (issued (length past) e) p c i)) _ earlier).1
      ]
    ]

-- Where a complete transaction of the port is outstanding, the port is enabled by step 4.
pub complete-enabled : (plan : Plan) (past : Trace) (p : ℕ) (c : Channel) (i : ℕ) (x : Transaction) → AreSteps plan past
    → outstanding plan.header past p c i ≡ Some x → is_complete past p c i ≡ true → is_enabled_by (4 ∷ []) plan past p ≡ true
complete-enabled plan past p c i x s o done =
    let h = plan.header in
    let due = complete-due h past p c i x (steps-accepted plan past s) (complete-ace h past p c i x o done) o done in
    let may : may_acknowledge (next_operation plan past p) h past p ≡ true = or_left (has_due h past p) (is_finished (next_operation plan past p) h past p) due in
    or_left (may_acknowledge (next_operation plan past p) h past p) _ may
