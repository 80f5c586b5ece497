use Rattle.std.proofs.Common.{◌≡◌, ◌<◌, ◌∙◌, ◌++◌, ℕ, false, inl, inr, length, refl, sym, ap, arith, subst}
use Rattle.std.proofs.lemmas.Bool.{cases_eq}
use Rattle.ace_model.specs.Plans.{PlanWithRoom}
use Rattle.ace_runs.specs.Steps.{AreSteps}
use Rattle.ace_engine.specs.Engines.{IsLegal}
use Rattle.ace_home.specs.Among.{is_enabled_among}
use Rattle.ace_home.proofs.Among.{step-is}
use Rattle.ace_runs.specs.Follows.{Done}
use Rattle.ace_fabric.specs.Runs.{Run}
use Rattle.ace_fabric.proofs.Continued.{longer-then}
use Rattle.ace_filter.specs.Filter.{is_set}
use Rattle.ace_filter.proofs.Draining.{has-holders, idle-done, kept-turn}
use Rattle.ace_filter.proofs.drain.round.Goals.{in-Moved, in-Idle}
use Rattle.ace_filter.proofs.drain.round.Goals as goal

pub loop-port-preserved : goal.loop-port-preserved
loop-port-preserved c =
    let a = c.args.system.now in
    let b = c.loop-port.system in
    let d = c.turn_of.new.system in
    let old = c.loop-port.invariant in
    elim c.match-turn_of.branch [
      | in-Moved w ↦
          let m = w.in-Moved.ensures.moved refl in
          let all = kept-turn c.loop-port.filter a b d old.kept.0 m.0 c.loop-port.port old.heard c.keeps.ensures.legal old.kept.1 old.kept.2 m.1 m.2 in
          rw w.moved-is (record {
            kept = (old.kept.0 ++ m.0, all.0, all.1);
            heard = w.in-Moved.ensures.heard;
            room = w.in-Moved.ensures.room ∙ old.room;
            longer = λ _. longer-then old.kept.0 m.0 a b d c.loop-port.port old.kept.1 m.2 (step-is (is_set c.loop-port.filter) b.plan b.past c.loop-port.port m.0 m.1);
            idle = λ f. absurd (cc);
          })
      | in-Idle w ↦
          let i = w.in-Idle.ensures.idle refl in
          rw w.moved-is (record {
            kept = (old.kept.0, i.0 ∙ old.kept.1, old.kept.2);
            heard = w.in-Idle.ensures.heard;
            room = w.in-Idle.ensures.room ∙ old.room;
            longer = λ t. subst (λ (r : Run). length a.past < length r.past) (sym i.0) (old.longer t);
            idle = λ f.
                let was = old.idle f in (
                  i.0 ∙ was.0,
                  i.1 ∙ was.1,
                  (λ p low. elim (cases_eq p c.loop-port.port) [
                    | inl here ↦
                        subst (λ (q : ℕ). is_enabled_among (is_set c.args.filter.now) a.plan a.past q ≡ false) (sym here)
                        (subst (λ s. is_enabled_among (is_set s) a.plan a.past c.loop-port.port ≡ false) was.1
                        (subst (λ (r : Run). is_enabled_among (is_set c.loop-port.filter) r.plan r.past c.loop-port.port ≡ false) was.0 i.2))
                    | inr off ↦ was.2 p (omega (arith, low, off))
                  ]),
                );
          })
    ]

pub turn_of-requires-clause-port : goal.turn_of-requires-clause-port
turn_of-requires-clause-port c =
    let now = ap (λ (r : Run). r.plan.header.ports) c.loop-port.invariant.kept.1 in
    let plan = ap (λ (v : PlanWithRoom). v.plan.header.ports) c.plan.ensures in
    let view = ap (λ (v : PlanWithRoom). v.plan.header.ports) c.view.ensures.view in
    let end = ap (λ h. h.ports) c.header-port-end.ensures in
    let low = c.loop-port-test.true in
    omega (arith, now, plan, view, end, low)

pub turn_of-requires-clause-room : goal.turn_of-requires-clause-room
turn_of-requires-clause-room c =
    let now = ap (λ (r : Run). length r.plan.operations) c.loop-port.invariant.kept.1 in
    let same = c.loop-port.invariant.room in
    let room = c.requires.room in
    omega (arith, now, same, room)

pub returns-clause-done : goal.returns-clause-done
returns-clause-done c = λ f.
    let a = c.args.system.now in
    let i = c.loop-port.invariant.idle f in
    let legal = subst (λ (r : Run). IsLegal r.plan r.past) i.0 c.keeps-2.ensures.legal in
    let steps = subst (λ (r : Run). AreSteps r.plan r.past) i.0 c.keeps-2.ensures.steps in
    let holders = has-holders c.args.filter.now a.plan.header a.past c.requires.heard in
    let plan = ap (λ (v : PlanWithRoom). v.plan.header.ports) c.plan.ensures in
    let view = ap (λ (v : PlanWithRoom). v.plan.header.ports) c.view.ensures.view in
    let end = ap (λ h. h.ports) c.header-port-end.ensures in
    let over = c.loop-port-test.false in
    subst (λ (r : Run). Done r.plan r.past) (sym i.0)
    (idle-done (is_set c.args.filter.now) a.plan a.past legal steps holders (λ p low. i.2 p (omega (arith, low, over, plan, view, end))))
