use Rattle.std.proofs.Common.{◌≡◌, sym, ap, subst, ◌∙◌}
use Rattle.ace_model.specs.declared.plans.PlanOp.{PlanOp}
use Rattle.ace_model.specs.Plans.{IsRight, PlanWithRoom, longer}
use Rattle.ace_engine_tests.specs.Order.{plan_of}
use Rattle.ace_engine_tests.proofs.order.engine_for.Goals as goal

pub new-requires : goal.new-requires
new-requires c =
    let o : PlanOp = record { port = 0; op = c.args.op } in
    let same : c.push.new.self.plan ≡ plan_of c.args.op = ap (λ (v : PlanWithRoom). v.plan) c.push.ensures.value ∙ ap (λ (v : PlanWithRoom). longer v.plan o) c.in_ok-plan.ensures in
    subst IsRight (sym same) c.requires
