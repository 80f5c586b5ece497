-- The steps that end an operation whose acts are made: the OP of step 4, and the AC DVM Complete of step 13, break no rule.
use Rattle.std.proofs.Common.{◌≡◌, ℕ, ◌<◌, Bool, true, false, not, ◌&&◌, ◌||◌, nat_lt, if◌then◌else◌, List, [], ◌∷◌, Option, Some, None, is_some, le_refl, refl, sym, ap, ◌∙◌}
use Rattle.std.proofs.lemmas.Bool.{and_from, eq-eqb, or_left, or_right}
use Rattle.ace_event.specs.declared.event.Channel.{Channel}
use Rattle.ace_event.specs.declared.event.Channel.TheVariants.{Read, Write}
use Rattle.ace_event.specs.declared.event.Event.{Event}
use Rattle.ace_event.specs.declared.event.Outcome.TheVariants.{Ok}
use Rattle.ace_event.specs.declared.header.Header.{Header}
use Rattle.ace_model.specs.declared.plans.Op.{Op}
use Rattle.ace_model.specs.Accepted.{IsAccepted}
use Rattle.ace_model.specs.OrderRules.{retired}
use Rattle.ace_model.specs.Plans.{IsRight, Plan}
use Rattle.ace_model.specs.Trace.{Trace, is_some_and}
use Rattle.ace_model.specs.Transactions.{acknowledgements, is_ace, is_outstanding, next_complete, some_issued, transaction_under}
use Rattle.ace_model.proofs.Outstanding.Waiting.{waits_is}
use Rattle.ace_runs.specs.Closing.{retirement}
use Rattle.ace_runs.specs.Follows.{FollowsSoFar}
use Rattle.ace_runs.specs.MasterSteps.{acknowledges, acknowledges_on, due, has_due, is_finished, may_acknowledge}
use Rattle.ace_runs.specs.Operations.{next_operation}
use Rattle.ace_runs.specs.OrderSteps.{gives_completion, may_give_completion, sync_completion}
use Rattle.ace_runs.specs.Retiring.{may_retire}
use Rattle.ace_runs.specs.SameEvents.{same_burst}
use Rattle.ace_runs.specs.Segments.{acts_made}
use Rattle.ace_runs.specs.Steps.{AreSteps, is_enabled_by, is_sound, is_step_by}
use Rattle.ace_runs.proofs.Turns.{steps-accepted}
use Rattle.ace_runs.proofs.NeverStuck.Operations.Kept.ClosingKept.{retirement-kept}
use Rattle.ace_runs.proofs.NeverStuck.Messages.OwedCompletions.{none-outstanding}
use Rattle.ace_runs.proofs.NeverStuck.Phases.Finished.{acted-retires, asks_sync}

-- ---- step 4 ------------------------------------------------------------------------------------------

-- where nothing is outstanding, nothing is to be acknowledged
none-due-on : (h : Header) (past : Trace) (p : ℕ) (c : Channel) → IsAccepted h past → some_issued past (is_outstanding h past) ≡ false → is_some (due h past p c) ≡ false
none-due-on h past p c a none = by (is_ace h p) refl (next_complete past p c) refl
  where
    by : (b : Bool) → is_ace h p ≡ b → (o : Option ℕ) → next_complete past p c ≡ o → is_some (if b then transaction_under past p c o else None) ≡ false
    by false lite o is = refl
    by true ace None is = refl
    by true ace (Some i) is =
        let w = waits_is h past p c (acknowledgements past p c) i a ace (le_refl (acknowledgements past p c)) is in
        let bad : None ≡ Some w.0 = sym (none-outstanding h past p c i none) ∙ w.1 in cc

none-due : (h : Header) (past : Trace) (p : ℕ) → IsAccepted h past → some_issued past (is_outstanding h past) ≡ false → has_due h past p ≡ false
none-due h past p a none = ap (λ b. b || is_some (due h past p Write)) (none-due-on h past p Read a none) ∙ none-due-on h past p Write a none

-- Where nothing is outstanding, and the next operation of the port may retire with `ok`, its OP is a step.
pub retirement-step : (plan : Plan) (past : Trace) (p : ℕ) (o : Op) → AreSteps plan past → nat_lt p plan.header.ports ≡ true → some_issued past (is_outstanding plan.header past) ≡ false
    → next_operation plan past p ≡ Some o → may_retire plan.header past p o Ok ≡ true → is_step_by (4 ∷ []) plan past p (retirement past p Ok) ≡ true
retirement-step plan past p o s low none next may =
    let h = plan.header in
    let op = next_operation plan past p in
    let burst = retirement past p Ok in
    let ends : is_some_and (next_operation plan past p) (λ o. may_retire h past p o Ok) ≡ true = ap (λ n. is_some_and n (λ o. may_retire h past p o Ok)) next ∙ may in
    let finished : is_finished op h past p ≡ true = and_from _ _ (ap not (none-due h past p (steps-accepted plan past s) none)) ends in
    let enabled : may_acknowledge op h past p ≡ true = or_right (has_due h past p) (is_finished op h past p) finished in
    let same : same_burst burst burst ≡ true = rw (eq-eqb p p (refl {a = p}), eq-eqb (retired past p) (retired past p) (refl {a = retired past p})) refl in
    let gives : acknowledges op h past p burst ≡ true =
    or_right (acknowledges_on op h past p burst Read || acknowledges_on op h past p burst Write) _ (and_from _ _ finished same) in
    let sound : is_sound h past burst ≡ true = and_from _ _ refl (retirement-kept h past p Ok low) in
    and_from _ _ sound (or_left (may_acknowledge op h past p && acknowledges op h past p burst) _ (and_from _ _ enabled gives))

-- So it is one of an operation of which an act is made, and which is no Sync.
pub acted-step : (plan : Plan) (past : Trace) (p : ℕ) (o : Op) → IsRight plan → AreSteps plan past → FollowsSoFar plan past → nat_lt p plan.header.ports ≡ true
    → some_issued past (is_outstanding plan.header past) ≡ false → next_operation plan past p ≡ Some o → 0 < acts_made past p → asks_sync o ≡ false
    → (burst : List Event) × (is_step_by (4 ∷ []) plan past p burst ≡ true)
acted-step plan past p o right s f low none next some other =
    (retirement past p Ok, retirement-step plan past p o s low none next (acted-retires plan past p o right s f none next some other))

-- ---- step 13 -----------------------------------------------------------------------------------------

-- Where the port is enabled by step 13, its AC DVM Complete is a step.
pub completion-step : (plan : Plan) (past : Trace) (p : ℕ) → is_enabled_by (13 ∷ []) plan past p ≡ true → is_step_by (13 ∷ []) plan past p (sync_completion p) ≡ true
completion-step plan past p enabled =
    let h = plan.header in
    let may : may_give_completion h past p ≡ true = or-false (may_give_completion h past p) enabled in
    let gives : gives_completion h past p (sync_completion p) ≡ true = rw (eq-eqb p p (refl {a = p})) refl in
    let sound : is_sound h past (sync_completion p) ≡ true = and_from _ _ refl (and_from _ _ may refl) in
    and_from _ _ sound (or_left (may_give_completion h past p && gives_completion h past p (sync_completion p)) _ (and_from _ _ may gives))
  where
    or-false : (b : Bool) → (b || false) ≡ true → b ≡ true
    or-false true m = refl
    or-false false m = cc
