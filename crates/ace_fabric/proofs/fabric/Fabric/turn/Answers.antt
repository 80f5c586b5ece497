use Rattle.std.proofs.Common.{◌≡◌, ◌∙◌, ℕ, false, inl, inr, refl, reverse, sym, subst, true}
use Rattle.std.proofs.lemmas.Bool.{cases_eq, ne_eqb}
use Rattle.ace_runs.specs.Steps.{is_enabled}
use Rattle.ace_fabric.specs.Idle.{is_idle}
use Rattle.ace_fabric.specs.Runs.{Run}
use Rattle.ace_fabric.proofs.fabric.Fabric.turn.Goals as goal

pub returns-then-has-clause-idle : goal.returns-then-has-clause-idle
returns-then-has-clause-idle g c = λ _.
    let none = c.self.invariant.idle_are c.args.port (sym c.has.ensures ∙ c.if-has.true) in
    (refl, subst (λ (r : Run). is_enabled r.plan r.past c.args.port ≡ false) c.self.view_is none)

pub invariant_of-self : goal.invariant_of-self
invariant_of-self g c =
    let port = c.args.port in
    let plan = c.self-2.inside.plan.plan in
    let past = reverse c.self-2.inside.events.items in
    let kept = c.self-2.invariant in
    let idle = c.in-Idle.ensures.idle refl in
    let none : is_enabled plan past port ≡ false = subst (λ (r : Run). is_enabled r.plan r.past port ≡ false) (sym (c.self-2.view_is ∙ idle.0)) idle.1 in
    record {
      engines = kept.engines;
      room = kept.room;
      left_is = kept.left_is;
      idle_are = λ p some. elim (cases_eq p port) [
        | inl here ↦ subst (λ (q : ℕ). is_enabled plan past q ≡ false) (sym here) none
        | inr off ↦
            let more = c.add.ensures p in
            let old : is_idle c.self-2.inside.idle p ≡ true = sym (rw (ne_eqb p port off) at more) ∙ some in
            kept.idle_are p old
      ];
    }
