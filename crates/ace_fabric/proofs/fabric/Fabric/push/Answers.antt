use Rattle.std.proofs.Common.{◌∙◌, ◌∷◌, ap, arith, length, reverse, subst, sym, vec_capacity, List, []}
use Rattle.std.specs.Vec.{with_items}
use Rattle.std.proofs.lemmas.Bool.{ltb-true}
use Rattle.std.proofs.lemmas.List.{length-append, with_items_is}
use Rattle.ace_model.specs.declared.plans.PlanOp.{PlanOp}
use Rattle.ace_model.specs.Plans.{IsRight, PlanWithRoom, longer}
use Rattle.ace_model.proofs.GrowingPlans.{right_shorter}
use Rattle.ace_fabric.specs.Parts.{AreEngines, AreMasters}
use Rattle.ace_fabric.specs.Runs.{IsRunning, Run}
use Rattle.ace_fabric.proofs.LongerRuns.{engines-grow}
use Rattle.ace_fabric.proofs.NoneIdle.{none_idle}
use Rattle.ace_fabric.proofs.fabric.Fabric.push.Goals as goal

pub give-requires : goal.give-requires
give-requires g c =
    let view = c.self.inside.plan in
    let past = reverse c.self.inside.events.items in
    let o : PlanOp = record { port = c.args.port; op = c.args.op } in
    let right : IsRight (longer view.plan o) = subst (λ (v : PlanWithRoom). IsRight v.plan) c.lengthen.ensures.value c.lengthen.ensures.right in
    let masters : AreMasters g.M.Engine view.plan past c.as_mut_slice.result.now =
    subst (λ (ms : List g.row.M.Denot). AreMasters g.M.Engine view.plan past ms) (sym c.as_mut_slice.ensures.value) c.self.invariant.engines.masters_are in
    (view.plan, past, masters, ltb-true c.args.port view.plan.header.ports (right_shorter view.plan o right).1.port, right)

pub invariant_of-self : goal.invariant_of-self
invariant_of-self g c =
    let view = c.self.inside.plan in
    let past = reverse c.self.inside.events.items in
    let o : PlanOp = record { port = c.args.port; op = c.args.op } in
    let right : IsRight (longer view.plan o) = subst (λ (v : PlanWithRoom). IsRight v.plan) c.lengthen.ensures.value c.lengthen.ensures.right in
    let was : AreMasters g.M.Engine view.plan past c.as_mut_slice.result.now =
    subst (λ (ms : List g.row.M.Denot). AreMasters g.M.Engine view.plan past ms) (sym c.as_mut_slice.ensures.value) c.self.invariant.engines.masters_are in
    let masters = c.give.ensures view.plan past was right in
    let same = c.give.auto.masters ∙ ap length c.as_mut_slice.ensures.value ∙ sym c.self.inside.masters.ok.0 in
    let items = with_items_is c.self.inside.masters c.give.new.masters same in
    let engines = engines-grow g.H.Engine g.U.Engine g.O.Engine g.M.Engine view.plan past o c.self.inside.home c.self.inside.update c.self.inside.order c.self.inside.masters.items c.give.new.masters
    right c.self.invariant.engines masters in
    let room = c.self.invariant.room in
    let some = c.requires.room in
    let is = ap (λ (r : Run). r.room) c.self.view_is in
    let long = length-append view.plan.operations (o ∷ []) in
    subst (λ (v : PlanWithRoom). IsRunning g.H.Engine g.U.Engine g.O.Engine g.M.Engine v past (vec_capacity c.self.inside.events) c.self.inside.home c.self.inside.update c.self.inside.order
    (with_items c.self.inside.masters c.give.new.masters).items c.push.new.self c.none-self-inside.result) (sym c.lengthen.ensures.value) (record {
      engines = subst (λ (ms : List g.row.M.Denot). AreEngines g.H.Engine g.U.Engine g.O.Engine g.M.Engine (longer view.plan o) past c.self.inside.home c.self.inside.update c.self.inside.order ms)
          (sym items) engines;
      room = omega (arith, room, some, is, long);
      left_is = c.push.ensures view.plan past c.args.op c.self.invariant.left_is right;
      idle_are = none_idle (longer view.plan o) past c.none-self-inside.result c.none-self-inside.ensures;
    })
