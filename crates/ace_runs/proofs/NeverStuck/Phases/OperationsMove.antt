-- Where nothing is outstanding, a port with a next operation is enabled by step 4, 13 or 14: by step 14 where it has made no act for the operation,
-- else by step 4, or by step 13 where the operation is a Sync. That an operation without an act goes on by step 14, and that a complete Sync is told so
-- by step 13, are premises here.
use Rattle.std.proofs.Common.{◌≡◌, ℕ, ◌<◌, true, false, [], ◌∷◌, None, Some, inl, inr, refl, arith}
use Rattle.std.proofs.lemmas.Bool.{cases_lt}
use Rattle.ace_model.specs.declared.plans.Op.{Op}
use Rattle.ace_model.specs.declared.plans.Op.TheVariants.{Sync}
use Rattle.ace_model.specs.declared.transactions.Transaction.{Transaction}
use Rattle.ace_model.specs.Messages.{is_sync_completed, last_sync}
use Rattle.ace_model.specs.Plans.{IsRight, Plan}
use Rattle.ace_model.specs.Progress.{is_completed}
use Rattle.ace_model.specs.Snoops.{answered}
use Rattle.ace_model.specs.Trace.{Trace}
use Rattle.ace_model.specs.Transactions.{is_outstanding, some_issued}
use Rattle.ace_runs.specs.Follows.{FollowsSoFar}
use Rattle.ace_runs.specs.Operations.{next_operation}
use Rattle.ace_runs.specs.Segments.{acts_made}
use Rattle.ace_runs.specs.Steps.{AreSteps, is_enabled_by}
use Rattle.ace_runs.proofs.NeverStuck.Steps.EnabledBy.{enabled-by-more}
use Rattle.ace_runs.proofs.NeverStuck.Phases.Finished.{acted-enabled}
use Rattle.ace_runs.proofs.NeverStuck.Phases.SyncsEnd.{sync-enabled}

module _ (plan : Plan) (past : Trace) (p : ℕ) (right : IsRight plan) (s : AreSteps plan past) (f : FollowsSoFar plan past) (none : some_issued past (is_outstanding plan.header past) ≡ false)
    (no_snoop : answered past p ≡ None)
    (completes : (x : Transaction) → last_sync past p ≡ Some x → is_completed past x ≡ true → is_sync_completed past p ≡ false → is_enabled_by (13 ∷ []) plan past p ≡ true) where
  -- the port has made an act
  pub acted-moves : (o : Op) → next_operation plan past p ≡ Some o → 0 < acts_made past p → is_enabled_by (4 ∷ 13 ∷ []) plan past p ≡ true
  acted-moves (Sync word) next some = sync-enabled plan past p word right s f none no_snoop next some completes
  acted-moves o next some = enabled-by-more (4 ∷ []) (4 ∷ 13 ∷ []) plan past p refl (acted-enabled plan past p o right s f none next some refl)

  pub operation-moves : (o : Op) → next_operation plan past p ≡ Some o → (acts_made past p ≡ 0 → is_enabled_by (14 ∷ []) plan past p ≡ true)
      → is_enabled_by (4 ∷ 13 ∷ 14 ∷ []) plan past p ≡ true
  operation-moves o next goes =
      elim (cases_lt 0 (acts_made past p)) [
        | inl some ↦ enabled-by-more (4 ∷ 13 ∷ []) (4 ∷ 13 ∷ 14 ∷ []) plan past p refl (acted-moves o next some)
        | inr low ↦ enabled-by-more (14 ∷ []) (4 ∷ 13 ∷ 14 ∷ []) plan past p refl (goes (omega (arith, low)))
      ]
