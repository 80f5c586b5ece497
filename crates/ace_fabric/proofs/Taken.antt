-- A step of some numbers is a step, and a port that no kind of engine has a step for isn't enabled.
use Rattle.std.proofs.Common.{◌≡◌, ℕ, Bool, true, false, ◌&&◌, ◌||◌, List, [], ◌∷◌, inl, inr, refl}
use Rattle.std.specs.List.{list_all, list_any}
use Rattle.std.proofs.lemmas.Bool.{and_from, and_parts, or_cases, or_left, or_right}
use Rattle.ace_event.specs.declared.event.Event.{Event}
use Rattle.ace_event.specs.declared.header.Header.{Header}
use Rattle.ace_model.specs.Plans.{Plan}
use Rattle.ace_model.specs.Trace.{Trace}
use Rattle.ace_runs.specs.Bursts.{onto}
use Rattle.ace_runs.specs.Steps.{AreSteps, IsStep, StepKind, has_number, is_enabled_by, is_sound, is_step_by, may_give, steps_of}
use Rattle.ace_engine.specs.Engines.{Home, Master, Order, Update, numbers_of}
use Rattle.ace_home.specs.Among.{PortSets, is_enabled_among, is_enabled_by_among, steps_among}

any-number : (numbers : List ℕ) (h : Header) (past : Trace) (p : ℕ) (burst : List Event) (steps : List StepKind)
    → list_any (λ s. has_number numbers s && may_give h past p burst s) steps ≡ true → list_any (may_give h past p burst) steps ≡ true
any-number numbers h past p burst [] t = cc
any-number numbers h past p burst (s ∷ steps) t =
    elim (or_cases (has_number numbers s && may_give h past p burst s) (list_any (λ r. has_number numbers r && may_give h past p burst r) steps) t) [
      | inl here ↦ or_left (may_give h past p burst s) _ (and_parts (has_number numbers s) (may_give h past p burst s) here).1
      | inr later ↦ or_right (may_give h past p burst s) _ (any-number numbers h past p burst steps later)
    ]

pub step-by-is : (numbers : List ℕ) (plan : Plan) (past : Trace) (p : ℕ) (burst : List Event) → is_step_by numbers plan past p burst ≡ true → IsStep plan past p burst
step-by-is numbers plan past p burst s =
    let parts = and_parts (is_sound plan.header past burst) (list_any (λ r. has_number numbers r && may_give plan.header past p burst r) (steps_of plan past p)) s in
    and_from _ _ parts.0 (any-number numbers plan.header past p burst (steps_of plan past p) parts.1)

-- a list of steps goes on with a step
pub steps-after : (plan : Plan) (past : Trace) (p : ℕ) (burst : List Event) → AreSteps plan past → IsStep plan past p burst → AreSteps plan (onto burst past)
steps-after plan past p burst (turns, e) s = (record { port = p; burst = burst } ∷ turns, rw e (rw s refl))

-- ---- no step -----------------------------------------------------------------------------------------

one-of : (w x y z e : Bool) → (w || x || y || z) ≡ true → (w && e) ≡ false → (x && e) ≡ false → (y && e) ≡ false → (z && e) ≡ false → e ≡ false
one-of true x y z e one p q r s = p
one-of false true y z e one p q r s = q
one-of false false true z e one p q r s = r
one-of false false false true e one p q r s = s
one-of false false false false e one p q r s = cc

neither : (a b : Bool) → (a || b) ≡ false → (a ≡ false) × (b ≡ false)
neither true b n = cc
neither false b n = (refl, n)

none-of-any : (u v w x : List ℕ) (h : Header) (past : Trace) (p : ℕ) (steps : List StepKind)
    → list_all (λ s. has_number u s || has_number v s || has_number w s || has_number x s) steps ≡ true
    → list_any (λ s. has_number u s && s.is_enabled h past p) steps ≡ false → list_any (λ s. has_number v s && s.is_enabled h past p) steps ≡ false
    → list_any (λ s. has_number w s && s.is_enabled h past p) steps ≡ false → list_any (λ s. has_number x s && s.is_enabled h past p) steps ≡ false
    → list_any (λ s. s.is_enabled h past p) steps ≡ false
none-of-any u v w x h past p [] all a b c d = refl
none-of-any u v w x h past p (s ∷ steps) all a b c d =
    let parts = and_parts (has_number u s || has_number v s || has_number w s || has_number x s) _ all in
    let on = neither (has_number u s && s.is_enabled h past p) _ a in
    let tw = neither (has_number v s && s.is_enabled h past p) _ b in
    let th = neither (has_number w s && s.is_enabled h past p) _ c in
    let fo = neither (has_number x s && s.is_enabled h past p) _ d in
    let here : s.is_enabled h past p ≡ false =
    one-of (has_number u s) (has_number v s) (has_number w s) (has_number x s) (s.is_enabled h past p) parts.0 on.0 tw.0 th.0 fo.0 in
    rw here (none-of-any u v w x h past p steps parts.1 on.1 tw.1 th.1 fo.1)

pub no-kind-enabled : (among : PortSets) (plan : Plan) (past : Trace) (p : ℕ) → is_enabled_by (numbers_of Master) plan past p ≡ false → is_enabled_by (numbers_of Update) plan past p ≡ false
    → is_enabled_by_among among (numbers_of Home) plan past p ≡ false → is_enabled_by (numbers_of Order) plan past p ≡ false → is_enabled_among among plan past p ≡ false
no-kind-enabled among plan past p m u h o =
    none-of-any (numbers_of Master) (numbers_of Update) (numbers_of Home) (numbers_of Order) plan.header past p (steps_among among plan past p) refl m u h o
