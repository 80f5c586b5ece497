-- An operation of an ACE port of which an act is made is under way: one of its transactions is outstanding, or it is a Sync whose AC DVM Complete isn't
-- both given and answered. So where nothing is outstanding, it is a Sync that is yet to be told that it is complete, and the other ports that have made an
-- act are ACE-Lite ports.
use Rattle.std.proofs.Common.{◌≡◌, ℕ, ◌<◌, Bool, true, false, not, ◌&&◌, ◌||◌, [], ◌∷◌, length, None, Some, is_some, inl, inr, refl, sym, ap, ◌∙◌, arith}
use Rattle.std.specs.List.{list_any}
use Rattle.std.proofs.lemmas.Bool.{and_from, and_parts, cases_Bool, eq-eqb}
use Rattle.ace_event.specs.declared.event.Outcome.TheVariants.{Ok}
use Rattle.ace_model.specs.declared.plans.Op.{Op}
use Rattle.ace_model.specs.declared.plans.Op.TheVariants.{Sync}
use Rattle.ace_model.specs.declared.transactions.Transaction.{Transaction}
use Rattle.ace_model.specs.Messages.{is_sync_completed, last_sync}
use Rattle.ace_model.specs.Plans.{IsRight, Plan}
use Rattle.ace_model.specs.Progress.{is_completed}
use Rattle.ace_model.specs.Snoops.{answered}
use Rattle.ace_model.specs.Trace.{Trace, implies, is_some_and}
use Rattle.ace_model.specs.Transactions.{is_ace, is_outstanding, is_transaction, some_issued}
use Rattle.ace_model.proofs.Dvm.Syncs.{last_sync-is}
use Rattle.ace_model.proofs.General.Options.{some_is}
use Rattle.ace_model.proofs.Outstanding.Waiting.{ended_complete}
use Rattle.ace_runs.specs.Acts.{acts_of}
use Rattle.ace_runs.specs.Follows.{FollowsSoFar}
use Rattle.ace_runs.specs.Operations.{next_operation}
use Rattle.ace_runs.specs.Retiring.{are_acts_done, has_answered_completion, is_met, may_retire, tells_completion, unanswered}
use Rattle.ace_runs.specs.Segments.{acts_made}
use Rattle.ace_runs.specs.Steps.{AreSteps, is_enabled_by}
use Rattle.ace_runs.proofs.Turns.{steps-accepted}
use Rattle.ace_runs.proofs.NeverStuck.Messages.OwedCompletions.{none-outstanding}
use Rattle.ace_runs.proofs.NeverStuck.Phases.Finished.{acts-done, all-made, asks_sync, met}
use Rattle.ace_runs.proofs.NeverStuck.Phases.NeverFinished.{never-finished}
use Rattle.ace_runs.proofs.NeverStuck.Phases.SyncsEnd.{all-answered}
use Rattle.ace_runs.proofs.NeverStuck.Phases.SyncsIssued.{sync-issued}
use Rattle.ace_runs.proofs.NeverStuck.Phases.SyncsOfNext.{sync-of-next}

module _ (plan : Plan) (past : Trace) (p : ℕ) (right : IsRight plan) (s : AreSteps plan past) (f : FollowsSoFar plan past) where
  -- an operation whose acts are made ends where what holds beside them does
  unmet : (o : Op) → is_ace plan.header p ≡ true → next_operation plan past p ≡ Some o → 0 < acts_made past p → is_met plan.header past p o ≡ false
  unmet o ace next some =
      elim (cases_Bool (is_met plan.header past p o)) [
        | inr none ↦ none
        | inl holds ↦
            let all = eq-eqb (acts_made past p) (length (acts_of o)) (all-made plan past p o right s f next some) in
            let ends : may_retire plan.header past p o Ok ≡ true = and_from _ _ all holds in
            let bad : false ≡ true = sym (never-finished plan past p s ace) ∙ ap (λ n. is_some_and n (λ o. may_retire plan.header past p o Ok)) next ∙ ends in cc
      ]

  -- At an ACE port an act of the operation is outstanding.
  pub acts-under-way : (o : Op) → is_ace plan.header p ≡ true → next_operation plan past p ≡ Some o → 0 < acts_made past p → asks_sync o ≡ false → are_acts_done plan.header past p ≡ false
  acts-under-way o ace next some other =
      elim (cases_Bool (are_acts_done plan.header past p)) [
        | inr none ↦ none
        | inl done ↦
            let all = all-made plan past p o right s f next some in
            let bad : false ≡ true = sym (unmet o ace next some) ∙ met plan.header past p o done (omega (arith, all, some)) other in cc
      ]

  -- A Sync that is issued has had no AC DVM Complete, or one without an answer.
  pub sync-under-way : (word : ℕ) → is_ace plan.header p ≡ true → next_operation plan past p ≡ Some (Sync word) → 0 < acts_made past p → has_answered_completion past p ≡ false
  sync-under-way word ace next some = unmet (Sync word) ace next some

  -- Where a port has made no act for its next operation, its last Sync is completed.
  pub last-sync-completed : acts_made past p ≡ 0 → implies (is_some (last_sync past p)) (is_sync_completed past p) ≡ true
  last-sync-completed made =
      elim (cases_Bool (is_some (last_sync past p))) [
        | inr none ↦ ap (λ b. not b || is_sync_completed past p) none
        | inl some ↦ elim (cases_Bool (has_answered_completion past p)) [
          | inl answered ↦ ap (λ b. not b || is_sync_completed past p) some ∙ (and_parts (is_sync_completed past p) (not (list_any tells_completion (unanswered past p))) answered).0
          | inr later ↦
              let one = (sync-of-next plan past p right (steps-accepted plan past s) f some later).made in
              absurd (omega (arith, made, one))
        ]
      ]

  module _ (none : some_issued past (is_outstanding plan.header past) ≡ false) where
    -- Where nothing is outstanding, a port that has made an act for an operation that is no Sync is an ACE-Lite port.
    pub acted-lite : (o : Op) → next_operation plan past p ≡ Some o → 0 < acts_made past p → asks_sync o ≡ false → is_ace plan.header p ≡ false
    acted-lite o next some other =
        elim (cases_Bool (is_ace plan.header p)) [
          | inr lite ↦ lite
          | inl ace ↦ let bad : false ≡ true = sym (acts-under-way o ace next some other) ∙ acts-done plan.header past p none in cc
        ]

    -- A Sync that is issued is complete; where the snoops of its port are answered, it has had no AC DVM Complete.
    pub sync-waits : (word : ℕ) → is_ace plan.header p ≡ true → answered past p ≡ None → next_operation plan past p ≡ Some (Sync word) → 0 < acts_made past p
        → (x : Transaction) × (last_sync past p ≡ Some x) × (is_completed past x ≡ true) × (is_sync_completed past p ≡ false)
    sync-waits word ace no_snoop next some =
        let x = some_is (last_sync past p) (sync-issued plan past p word right f next some) in
        let there = (last_sync-is past p x.0 x.1).0.issued in
        let ended : is_outstanding plan.header past x.0 ≡ false = ap (λ o. is_transaction o x.0) (none-outstanding plan.header past x.0.port x.0.chan x.0.id none) in
        let nothing : not (list_any tells_completion (unanswered past p)) ≡ true = ap (λ l. not (list_any tells_completion l)) (all-answered past p no_snoop) in
        let untold : is_sync_completed past p ≡ false = and-true (is_sync_completed past p) (not (list_any tells_completion (unanswered past p))) nothing (sync-under-way word ace next some) in
        (x.0, x.1, ended_complete plan.header past x.0 (steps-accepted plan past s) there ended, untold)
      where
        and-true : (a b : Bool) → b ≡ true → (a && b) ≡ false → a ≡ false
        and-true true b t f = let bad : true ≡ false = sym t ∙ f in cc
        and-true false b t f = refl

    -- So it is told that it is complete: by step 13, where a Sync that waits for that is told so by step 13.
    pub sync-told : (word : ℕ) → is_ace plan.header p ≡ true → answered past p ≡ None → next_operation plan past p ≡ Some (Sync word) → 0 < acts_made past p
        → ((x : Transaction) → last_sync past p ≡ Some x → is_completed past x ≡ true → is_sync_completed past p ≡ false → is_enabled_by (13 ∷ []) plan past p ≡ true)
        → is_enabled_by (13 ∷ []) plan past p ≡ true
    sync-told word ace no_snoop next some completes =
        let x = sync-waits word ace no_snoop next some in completes x.0 x.1 x.2 x.3
