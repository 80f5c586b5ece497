-- A port for which there is a step of some numbers is enabled by one of them.
use Rattle.std.proofs.Common.{◌≡◌, ℕ, true, ◌&&◌, List, [], ◌∷◌, inl, inr}
use Rattle.std.specs.List.{list_any}
use Rattle.std.proofs.lemmas.Bool.{and_from, and_parts, or_cases, or_left, or_right}
use Rattle.ace_event.specs.declared.event.Event.{Event}
use Rattle.ace_event.specs.declared.header.Header.{Header}
use Rattle.ace_model.specs.Plans.{Plan}
use Rattle.ace_model.specs.Trace.{Trace}
use Rattle.ace_runs.specs.Steps.{StepKind, has_number, is_enabled_by, is_sound, is_step_by, may_give, steps_of}

any-enabled : (numbers : List ℕ) (h : Header) (past : Trace) (p : ℕ) (burst : List Event) (steps : List StepKind)
    → list_any (λ s. has_number numbers s && may_give h past p burst s) steps ≡ true
    → list_any (λ s. has_number numbers s && s.is_enabled h past p) steps ≡ true
any-enabled numbers h past p burst [] t = cc
any-enabled numbers h past p burst (s ∷ steps) t =
    elim (or_cases (has_number numbers s && may_give h past p burst s) (list_any (λ r. has_number numbers r && may_give h past p burst r) steps) t) [
      | inl here ↦
          let number = and_parts (has_number numbers s) (may_give h past p burst s) here in
          let both = and_parts (s.is_enabled h past p) (s.gives h past p burst) number.1 in
          or_left (has_number numbers s && s.is_enabled h past p) _ (and_from (has_number numbers s) (s.is_enabled h past p) number.0 both.0)
      | inr later ↦ or_right (has_number numbers s && s.is_enabled h past p) _ (any-enabled numbers h past p burst steps later)
    ]

pub step-by-enabled-by : (numbers : List ℕ) (plan : Plan) (past : Trace) (p : ℕ) (burst : List Event)
    → is_step_by numbers plan past p burst ≡ true → is_enabled_by numbers plan past p ≡ true
step-by-enabled-by numbers plan past p burst s =
    let parts = and_parts (is_sound plan.header past burst) (list_any (λ r. has_number numbers r && may_give plan.header past p burst r) (steps_of plan past p)) s in
    any-enabled numbers plan.header past p burst (steps_of plan past p) parts.1
