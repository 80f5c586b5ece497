-- A burst that breaks no rule is a step of the engine where one of its four steps is enabled and gives it; and where none is enabled, no step is.
use Rattle.std.proofs.Common.{◌≡◌, ℕ, true, false, ◌&&◌, ◌||◌, List, [], ◌∷◌, refl}
use Rattle.std.proofs.lemmas.Bool.{and_from, or_left, or_right}
use Rattle.ace_event.specs.declared.event.Event.{Event}
use Rattle.ace_model.specs.Plans.{Plan}
use Rattle.ace_model.specs.Trace.{Trace}
use Rattle.ace_runs.specs.Bursts.{may_serve, serves}
use Rattle.ace_runs.specs.OrderSteps.{barrier_burst, dvm_burst, forwards, gives_completion, may_forward, may_give_completion}
use Rattle.ace_runs.specs.Steps.{is_enabled_by, is_sound, is_step_by}

module _ (plan : Plan) (past : Trace) (p : ℕ) (burst : List Event) (sound : is_sound plan.header past burst ≡ true) where
  pub answers-barrier : (may_serve barrier_burst plan.header past p && serves barrier_burst plan.header past p burst) ≡ true → is_step_by (10 ∷ 11 ∷ 12 ∷ 13 ∷ []) plan past p burst ≡ true
  answers-barrier given = and_from _ _ sound (or_left _ _ given)

  pub forwards-message : (may_forward plan.header past p && forwards plan.header past p burst) ≡ true → is_step_by (10 ∷ 11 ∷ 12 ∷ 13 ∷ []) plan past p burst ≡ true
  forwards-message given = and_from _ _ sound (or_right _ _ (or_left _ _ given))

  pub answers-message : (may_serve dvm_burst plan.header past p && serves dvm_burst plan.header past p burst) ≡ true → is_step_by (10 ∷ 11 ∷ 12 ∷ 13 ∷ []) plan past p burst ≡ true
  answers-message given = and_from _ _ sound (or_right _ _ (or_right _ _ (or_left _ _ given)))

  pub completes-sync : (may_give_completion plan.header past p && gives_completion plan.header past p burst) ≡ true → is_step_by (10 ∷ 11 ∷ 12 ∷ 13 ∷ []) plan past p burst ≡ true
  completes-sync given =
      let fourth : ((may_give_completion plan.header past p && gives_completion plan.header past p burst) || false) ≡ true =
      or_left (may_give_completion plan.header past p && gives_completion plan.header past p burst) false given in
      let third : ((may_serve dvm_burst plan.header past p && serves dvm_burst plan.header past p burst)
      || ((may_give_completion plan.header past p && gives_completion plan.header past p burst) || false)) ≡ true =
      or_right (may_serve dvm_burst plan.header past p && serves dvm_burst plan.header past p burst) _ fourth in
      and_from (is_sound plan.header past burst) _ sound
      (or_right (may_serve barrier_burst plan.header past p && serves barrier_burst plan.header past p burst) _
      (or_right (may_forward plan.header past p && forwards plan.header past p burst) _ third))

pub none-enabled : (plan : Plan) (past : Trace) (p : ℕ) → may_serve barrier_burst plan.header past p ≡ false → may_forward plan.header past p ≡ false
    → may_serve dvm_burst plan.header past p ≡ false → may_give_completion plan.header past p ≡ false → is_enabled_by (10 ∷ 11 ∷ 12 ∷ 13 ∷ []) plan past p ≡ false
none-enabled plan past p ten eleven twelve thirteen = rw (ten, eleven, twelve, thirteen) refl
