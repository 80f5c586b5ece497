-- A Sync that is issued ends: where nothing is outstanding, it is complete; then it has its AC DVM Complete by step 13, or has had it, and answered,
-- so that its operation retires by step 4.
use Rattle.std.proofs.Common.{◌≡◌, ℕ, ◌≤◌, ◌<◌, true, false, not, List, [], ◌∷◌, length, Some, None, slice_get, inl, inr, refl, sym, ap, ◌∙◌}
use Rattle.std.specs.List.{list_any}
use Rattle.std.proofs.lemmas.Bool.{and_from, cases_Bool, eq-eqb}
use Rattle.std.proofs.lemmas.List.{drop_all}
use Rattle.std.proofs.lemmas.Option.{slice_get_cases}
use Rattle.ace_model.specs.declared.plans.Op.TheVariants.{Sync}
use Rattle.ace_model.specs.declared.snoops.Snoop.{Snoop}
use Rattle.ace_model.specs.declared.transactions.Transaction.{Transaction}
use Rattle.ace_model.specs.Messages.{is_sync_completed, last_sync}
use Rattle.ace_model.specs.Plans.{IsRight, Plan}
use Rattle.ace_model.specs.Progress.{is_completed}
use Rattle.ace_model.specs.Snoops.{answered, answers, snoops_of}
use Rattle.ace_model.specs.Trace.{Trace}
use Rattle.ace_model.specs.Transactions.{is_outstanding, is_transaction, some_issued}
use Rattle.ace_model.proofs.Dvm.Syncs.{last_sync-is}
use Rattle.ace_model.proofs.General.Options.{some_is}
use Rattle.ace_model.proofs.Outstanding.Waiting.{ended_complete}
use Rattle.ace_runs.specs.Follows.{FollowsSoFar}
use Rattle.ace_runs.specs.Operations.{next_operation}
use Rattle.ace_runs.specs.Retiring.{has_answered_completion, tells_completion, unanswered}
use Rattle.ace_runs.specs.Segments.{acts_made}
use Rattle.ace_runs.specs.Steps.{AreSteps, is_enabled_by}
use Rattle.ace_runs.proofs.Turns.{steps-accepted}
use Rattle.ace_runs.proofs.NeverStuck.Steps.EnabledBy.{enabled-by-more}
use Rattle.ace_runs.proofs.NeverStuck.Messages.OwedCompletions.{none-outstanding}
use Rattle.ace_runs.proofs.NeverStuck.Phases.Finished.{all-made, retiring-enabled}
use Rattle.ace_runs.proofs.NeverStuck.Phases.SyncsIssued.{sync-issued}

-- where the next CR answers none, no snoop is unanswered
past-end : (xs : List Snoop) (n : ℕ) → slice_get xs n ≡ None → length xs ≤ n
past-end xs n none =
    elim (slice_get_cases xs n).1 [
      | inl there ↦ let bad : None ≡ Some there.0 = sym none ∙ there.2 in cc
      | inr out ↦ out.0
    ]

pub all-answered : (past : Trace) (p : ℕ) → answered past p ≡ None → unanswered past p ≡ []
all-answered past p none = drop_all (answers past p) (snoops_of past p) (past-end (snoops_of past p) (answers past p) none)

-- In a run that follows a right plan and has nothing outstanding, where a Sync of the port that is complete and wasn't told so is told by step 13, a
-- port that has answered its snoops and has made the act of a Sync is enabled by step 13 or 4.
pub sync-enabled : (plan : Plan) (past : Trace) (p word : ℕ) → IsRight plan → AreSteps plan past → FollowsSoFar plan past
    → some_issued past (is_outstanding plan.header past) ≡ false → answered past p ≡ None → next_operation plan past p ≡ Some (Sync word) → 0 < acts_made past p
    → ((x : Transaction) → last_sync past p ≡ Some x → is_completed past x ≡ true → is_sync_completed past p ≡ false → is_enabled_by (13 ∷ []) plan past p ≡ true)
    → is_enabled_by (4 ∷ 13 ∷ []) plan past p ≡ true
sync-enabled plan past p word right s f none no_snoop next some completes =
    elim (cases_Bool (is_sync_completed past p)) [
      | inr untold ↦
          let x = some_is (last_sync past p) (sync-issued plan past p word right f next some) in
          let there = (last_sync-is past p x.0 x.1).0.issued in
          let ended : is_outstanding plan.header past x.0 ≡ false = ap (λ o. is_transaction o x.0) (none-outstanding plan.header past x.0.port x.0.chan x.0.id none) in
          enabled-by-more (13 ∷ []) (4 ∷ 13 ∷ []) plan past p refl
          (completes x.0 x.1 (ended_complete plan.header past x.0 (steps-accepted plan past s) there ended) untold)
      | inl told ↦
          let all = all-made plan past p (Sync word) right s f next some in
          let nothing : not (list_any tells_completion (unanswered past p)) ≡ true = ap (λ l. not (list_any tells_completion l)) (all-answered past p no_snoop) in
          let met : has_answered_completion past p ≡ true = and_from _ _ told nothing in
          enabled-by-more (4 ∷ []) (4 ∷ 13 ∷ []) plan past p refl
          (retiring-enabled plan past p (Sync word) next (and_from _ _ (eq-eqb (acts_made past p) 1 all) met))
    ]
