use Rattle.std.proofs.Common.{◌≡◌, ◌<◌, ◌∙◌, ◌++◌, ℕ, false, inl, inr, refl, sym, ap, arith, length, subst}
use Rattle.std.proofs.lemmas.Bool.{cases_eq}
use Rattle.ace_model.specs.Plans.{PlanWithRoom}
use Rattle.ace_runs.specs.Steps.{AreSteps, is_enabled}
use Rattle.ace_engine.specs.Engines.{IsLegal}
use Rattle.ace_fabric.specs.Runs.{Run}
use Rattle.ace_fabric.proofs.Continued.{continued-twice, idle-done, longer-then}
use Rattle.ace_fabric.proofs.fabric.Fabric.round.Goals.{in-Moved, in-Idle}
use Rattle.ace_fabric.proofs.fabric.Fabric.round.Goals as goal

pub loop-port-preserved : goal.loop-port-preserved
loop-port-preserved g c =
    let a = c.args.self.now in
    let b = c.loop-port.self in
    let d = c.turn.new.self in
    let old = c.loop-port.invariant in
    elim c.match-turn.branch [
      | in-Moved w ↦
          let m = w.in-Moved.ensures.moved refl in
          rw w.moved-is (record {
            kept = (old.kept.0 ++ m.0, continued-twice old.kept.0 m.0 a b d old.kept.1 m.2);
            longer = λ _. longer-then old.kept.0 m.0 a b d c.loop-port.port old.kept.1 m.2 m.1;
            idle = λ f. absurd (cc);
          })
      | in-Idle w ↦
          let i = w.in-Idle.ensures.idle refl in
          rw w.moved-is (record {
            kept = (old.kept.0, i.0 ∙ old.kept.1);
            longer = λ t. subst (λ (r : Run). length a.past < length r.past) (sym i.0) (old.longer t);
            idle = λ f.
                let was = old.idle f in (
                  i.0 ∙ was.0,
                  (λ p low. elim (cases_eq p c.loop-port.port) [
                    | inl here ↦ subst (λ (q : ℕ). is_enabled a.plan a.past q ≡ false) (sym here) (subst (λ (r : Run). is_enabled r.plan r.past c.loop-port.port ≡ false) was.0 i.1)
                    | inr off ↦ was.1 p (omega (arith, low, off))
                  ]),
                );
          })
    ]

pub returns-clause-idle : goal.returns-clause-idle
returns-clause-idle g c = λ f.
    let a = c.args.self.now in
    let legal : IsLegal a.plan a.past = subst (λ (r : Run). IsLegal r.plan r.past) c.self.view_is c.self.invariant.engines.legal in
    let steps : AreSteps a.plan a.past = subst (λ (r : Run). AreSteps r.plan r.past) c.self.view_is c.self.invariant.engines.steps in
    let i = c.loop-port.invariant.idle f in
    let ports = ap (λ (r : Run). r.plan.header.ports) c.self.view_is in
    let view = ap (λ (v : PlanWithRoom). v.plan.header.ports) c.view.ensures.view in
    (i.0, idle-done a.plan a.past legal steps (λ p low. i.1 p (let end = c.header-port-end.ensures in let over = c.loop-port-test.false in omega (arith, low, over, ports, view, ap (λ h. h.ports) end))))
