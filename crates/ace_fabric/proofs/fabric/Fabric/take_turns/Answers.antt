use Rattle.std.proofs.Common.{◌≡◌, ◌<◌, ◌%◌, ◌++◌, List, ℕ, length, take, ap, subst, sym, ◌∙◌, arith}
use Rattle.std.proofs.Math.ListN.{get_or}
use Rattle.std.proofs.lemmas.List.{take_more}
use Rattle.ace_event.specs.declared.header.Header.{Header}
use Rattle.ace_model.specs.Plans.{Plan, PlanWithRoom}
use Rattle.ace_fabric.specs.Runs.{AreTurnsBy, IsTurnOf, Run}
use Rattle.ace_fabric.proofs.Continued.{continued-twice}
use Rattle.ace_fabric.proofs.TurnsBy.{taken, turns-more}
use Rattle.ace_fabric.proofs.fabric.Fabric.take_turns.Goals as goal

pub loop-number-preserved : goal.loop-number-preserved
loop-number-preserved g c =
    let a = c.args.self.now in
    let b = c.loop-number.self in
    let d = c.turn.new.self in
    let turns = c.args.turns.now in
    let i = c.loop-number.number-index in
    let n = get_or turns i 0 in
    let old = c.loop-number.invariant in
    let low : i < length turns = omega (arith, c.loop-number-test.true) in
    let same : b.plan ≡ a.plan = ap (λ (r : Run). r.plan) old.1 in
    let ports : c.header-ports.result.ports ≡ a.plan.header.ports =
    ap (λ (h : Header). h.ports) c.header-ports.ensures ∙ ap (λ (v : PlanWithRoom). v.plan.header.ports) c.view.ensures.view ∙ ap (λ (r : Run). r.plan.header.ports) c.self.view_is ∙ ap (λ (v : Plan). v.header.ports) same in
    let t = taken (n % c.header-ports.result.ports) c.turn.result b d c.turn.ensures.moved c.turn.ensures.idle in
    let turn : IsTurnOf a.plan b.past (n % a.plan.header.ports) t.burst =
    subst (λ (k : ℕ). IsTurnOf a.plan b.past (n % k) t.burst) ports (subst (λ (v : Plan). IsTurnOf v b.past (n % c.header-ports.result.ports) t.burst) same t.turn) in
    let more = turns-more a.plan (take i turns) n a.past b.past d.past t.burst old.2 turn (ap (λ (r : Run). r.past) t.is) in (
      old.0 ++ t.burst,
      continued-twice old.0 t.burst a b d old.1 t.is,
      subst (λ (ns : List ℕ). AreTurnsBy a.plan ns a.past d.past) (sym (take_more turns i 0 low)) more,
    )
