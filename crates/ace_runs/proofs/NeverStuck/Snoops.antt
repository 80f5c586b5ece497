-- An unanswered snoop is answered by its port, or waits for a memory update that moves on.
use Rattle.std.proofs.Common.{◌≡◌, ◌⊎◌, ℕ, true, not, [], ◌∷◌, Option, Some, None, le_refl, refl, sym, ap, ◌∙◌, inl, inr}
use Rattle.std.proofs.lemmas.Bool.{and_from, eq-eqb}
use Rattle.ace_event.specs.declared.header.Header.{Header}
use Rattle.ace_model.specs.declared.snoops.Snoop.{Snoop}
use Rattle.ace_model.specs.declared.transactions.Transaction.{Transaction}
use Rattle.ace_model.specs.Accepted.{IsAccepted}
use Rattle.ace_model.specs.Grants.{answer_of, granted, has_passed_data}
use Rattle.ace_model.specs.Plans.{Plan}
use Rattle.ace_model.specs.Progress.{has_update}
use Rattle.ace_model.specs.Snoops.{answered, answers, is_snoop_on, snoops_a_line}
use Rattle.ace_model.specs.Trace.{Trace, is_none_or}
use Rattle.ace_model.proofs.Grants.Pending.{snoops}
use Rattle.ace_model.proofs.Trace.Looks.{is_on-addr}
use Rattle.ace_runs.specs.Steps.{AreSteps, is_enabled_by}
use Rattle.ace_runs.proofs.Turns.{steps-accepted}
use Rattle.ace_runs.proofs.NeverStuck.Updates.BesideUpdates.{none-passed}
use Rattle.ace_runs.proofs.NeverStuck.Rows.{answers-or-waits, snooped-ace}
use Rattle.ace_runs.proofs.NeverStuck.Updates.UpdatesMove.{IsUpdate, update-moves, update-there}

-- the snoop isn't answered under the grant, so no data are passed on
no-passed : (h : Header) (past : Trace) (p l : ℕ) (u : Transaction) → IsAccepted h past → IsUpdate h past p l u → answer_of past p l ≡ None
    → is_none_or (granted h past u.addr) (λ y. not (has_passed_data h past y)) ≡ true
no-passed h past p l u a is unanswered = by (granted h past u.addr) refl
  where
    by : (o : Option Transaction) → granted h past u.addr ≡ o → is_none_or o (λ y. not (has_passed_data h past y)) ≡ true
    by None g = refl
    by (Some y) g =
        ap not (none-passed h past a p u.id l u y is.out is.on is.updates unanswered (ap (granted h past) (sym (is_on-addr u l is.on)) ∙ g))

-- Where an AC is unanswered, its port is enabled by step 1, or its oldest unanswered snoop waits for a memory update of it on the line,
-- and it is enabled by step 2, 3 or 4.
pub unanswered-snoop : (plan : Plan) (past : Trace) (p : ℕ) (s : Snoop) → AreSteps plan past → answered past p ≡ Some s
    → (is_enabled_by (1 ∷ []) plan past p ≡ true)
    ⊎ ((snoops_a_line s.snoop ≡ true) × (has_update plan.header past p s.addr ≡ true) × (is_enabled_by (2 ∷ 3 ∷ 4 ∷ 7 ∷ []) plan past p ≡ true))
unanswered-snoop plan past p s steps is =
    let h = plan.header in
    let a = steps-accepted plan past steps in
    elim (answers-or-waits plan past p s a is) [
      | inl now ↦ inl now
      | inr waits ↦
          let on : is_snoop_on s s.addr ≡ true = and_from _ _ waits.0 (eq-eqb s.addr s.addr refl) in
          let pending = (snoops h past a).pending p (answers past p) s.addr s (record { late = le_refl (answers past p); there = is; on = on }) in
          let u = update-there h past p s.addr waits.1 in
          let ace = snooped-ace h past p (answers past p) s a is in
          inr (waits.0, waits.1, update-moves plan past p s.addr u.0 steps u.1 ace (no-passed h past p s.addr u.0 a u.1 pending.unanswered))
    ]
