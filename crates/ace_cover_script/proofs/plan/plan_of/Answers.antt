use Rattle.std.proofs.Common.{ap, arith, refl, ◌-◌, ◌∙◌, subst, sym}
use Rattle.std.specs.List.{AllByRecursion}
use Rattle.ace_model.specs.Plans.{PlanWithRoom}
use Rattle.ace_model.specs.declared.plans.PlanOp.{PlanOp}
use Rattle.ace_cover_script.proofs.Covering.{IsParted, all_parted, covering_whole, next_listed, next_stands}
use Rattle.ace_cover_script.proofs.plan.plan_of.Goals as goal

pub push-requires-clause-right : goal.push-requires-clause-right
push-requires-clause-right c =
    let was = c.loop-left.invariant in
    (next_stands c.args.shape c.loop-left.plan.plan.header c.loop-left.plan.plan.operations c.drawn_operation-operation.result _ _ c.requires was.header
    c.drawn_operation-operation.ensures was.parted).0

pub loop-left-preserved : goal.loop-left-preserved
loop-left-preserved c =
    let was = c.loop-left.invariant in
    let before = c.loop-left.plan in
    let stands =
    next_stands c.args.shape before.plan.header before.plan.operations c.drawn_operation-operation.result _ _ c.requires was.header c.drawn_operation-operation.ensures
    was.parted in
    let operations = ap (λ (p : PlanWithRoom). p.plan.operations) c.push.ensures in
    record {
      same_shape = refl;
      same_number = refl;
      to_the_count = omega (arith, was.to_the_count);
      room = ap (λ (p : PlanWithRoom). p.room) c.push.ensures ∙ ap (λ k. k - 1) was.room;
      header = ap (λ (p : PlanWithRoom). p.plan.header) c.push.ensures ∙ was.header;
      ways = ap (λ (p : PlanWithRoom). p.plan.ways) c.push.ensures ∙ was.ways;
      policy = ap (λ (p : PlanWithRoom). p.plan.policy) c.push.ensures ∙ was.policy;
      parted =
          subst (AllByRecursion (λ (o : PlanOp). IsParted o.op)) (sym operations)
          (all_parted before.plan.operations (record { port = c.drawn_operation-operation.result.port; op = c.drawn_operation-operation.result.op }) was.parted stands.1);
      operations =
          next_listed c.args.shape before.plan.operations _ _ c.drawn_operation-operation.result c.loop-left.left _ _ c.loop-left.words _ _ c.loop-left-test.true
          c.next_word-x.ensures c.next_word-y.ensures c.drawn_operation-operation.ensures operations was.operations;
    }

pub returns : goal.returns
returns c =
    let was = c.loop-left.invariant in
    covering_whole c.loop-left.plan c.args.n c.loop-left.left c.args.shape c.args.words c.loop-left.words (omega (arith, c.loop-left-test.false)) was.header was.ways
    was.policy was.room was.operations
