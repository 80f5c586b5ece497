-- A run with more events at its end, and a run in which no port is enabled.
use Rattle.std.proofs.Common.{◌≡◌, ◌<◌, ◌≤◌, ◌+◌, ℕ, true, false, ◌&&◌, nat_le, List, [], ◌∷◌, ◌++◌, length, inl, inr, sym, ap, ◌∙◌, arith}
use Rattle.std.specs.List.{list_any}
use Rattle.std.proofs.lemmas.Bool.{and_parts, cases_Bool, leb-true}
use Rattle.ace_event.specs.declared.event.Event.{Event}
use Rattle.ace_model.specs.Plans.{Plan}
use Rattle.ace_model.specs.Trace.{Trace}
use Rattle.ace_runs.specs.Bursts.{are_kept, onto}
use Rattle.ace_runs.specs.Follows.{Done, is_done}
use Rattle.ace_runs.specs.Steps.{AreSteps, IsStep, is_enabled, is_sound, may_give, steps_of}
use Rattle.ace_runs.proofs.NeverStuck.RunsGoOn.{goes-on-until-done}
use Rattle.ace_engine.specs.Engines.{IsLegal}
use Rattle.ace_engine.proofs.Heard.{onto-append}
use Rattle.ace_fabric.specs.Runs.{Run, continued}

pub onto-length : (es : List Event) (past : Trace) → length (onto es past) ≡ length es + length past
onto-length [] past = omega arith
onto-length (e ∷ es) past = let h = onto-length es (e ∷ past) in omega (arith, h)

pub continued-twice : (first next : List Event) (a b c : Run) → b ≡ continued first a → c ≡ continued next b → c ≡ continued (first ++ next) a
continued-twice first next a b c one two =
    two ∙ ap (continued next) one ∙ ap (λ (t : Trace). record a { past = t }) (sym (onto-append first next a.past))

-- a step has an event
step-some : (plan : Plan) (past : Trace) (p : ℕ) (burst : List Event) → IsStep plan past p burst → 1 ≤ length burst
step-some plan past p burst s =
    let sound = (and_parts (is_sound plan.header past burst) (list_any (may_give plan.header past p burst) (steps_of plan past p)) s).0 in
    let few = (and_parts (nat_le 1 (length burst) && nat_le (length burst) 16) (are_kept plan.header past burst) sound).0 in
    leb-true 1 (length burst) (and_parts (nat_le 1 (length burst)) (nat_le (length burst) 16) few).0

pub longer-then : (first next : List Event) (a b c : Run) (p : ℕ) → b ≡ continued first a → c ≡ continued next b → IsStep b.plan b.past p next → length a.past < length c.past
longer-then first next a b c p one two s =
    let some = step-some b.plan b.past p next s in
    let x = ap (λ (r : Run). length r.past) one in
    let y = ap (λ (r : Run). length r.past) two in
    let u = onto-length first a.past in
    let v = onto-length next b.past in
    omega (arith, some, x, y, u, v)

-- where no port is enabled, the run is done
pub idle-done : (plan : Plan) (past : Trace) → IsLegal plan past → AreSteps plan past → ((p : ℕ) → p < plan.header.ports → is_enabled plan past p ≡ false) → Done plan past
idle-done plan past legal steps idle =
    elim (cases_Bool (is_done plan past)) [
      | inl t ↦ t
      | inr f ↦
          let some = goes-on-until-done plan past legal.right steps legal.follows (λ d. let bad : true ≡ false = sym d ∙ f in cc) in
          let off = idle some.0 some.1 in
          let on = some.2 in
          let bad : true ≡ false = sym on ∙ off in cc
    ]
