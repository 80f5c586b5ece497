use Rattle.std.proofs.Common.{◌≡◌, ◌<◌, ◌∙◌, ap, arith, false, length, reverse, sym, subst, true, List}
use Rattle.std.specs.Vec.{with_items}
use Rattle.std.proofs.lemmas.List.{length-reverse, with_items_is}
use Rattle.ace_model.specs.Trace.{Trace}
use Rattle.ace_runs.specs.Bursts.{onto}
use Rattle.ace_runs.proofs.Few.Bound.{few-events}
use Rattle.ace_home.specs.Among.{HasHolders, IsStepAmong, is_enabled_among}
use Rattle.ace_fabric.specs.Left.{LeftStands}
use Rattle.ace_fabric.specs.Parts.{AreEngines}
use Rattle.ace_fabric.specs.Runs.{Run, continued}
use Rattle.ace_fabric.proofs.Continued.{onto-length}
use Rattle.ace_fabric.proofs.NoneIdle.{none_idle}
use Rattle.ace_fabric.proofs.fabric.Fabric.turn_among.Goals as goal

pub append-requires : goal.append-requires
append-requires g c =
    let plan = c.self.inside.plan.plan in
    let past = reverse c.self.inside.events.items in
    let moved = c.by_any.ensures.moved c.if-not-by_any.false plan past (subst (λ (ms : List g.row.M.Denot). AreEngines g.H.Engine g.U.Engine g.O.Engine g.M.Engine c.self.inside.plan.plan (reverse c.self.inside.events.items) c.self.inside.home c.self.inside.update c.self.inside.order ms) (sym c.as_mut_slice.ensures.value) c.self.invariant.engines) in
    let legal = moved.1.legal in
    let few = few-events plan (onto c.by_any.new.out past) legal.right legal.accepted legal.follows legal.lean in
    let long = onto-length c.by_any.new.out past in
    let turned = length-reverse c.self.inside.events.items in
    let room = c.self.invariant.room in
    omega (arith, few, long, turned, room)

pub returns-then-not-by_any-clause-idle : goal.returns-then-not-by_any-clause-idle
returns-then-not-by_any-clause-idle g c = λ _.
    let plan = c.self.inside.plan.plan in
    let past = reverse c.self.inside.events.items in
    let asked = subst (λ (ms : List g.row.M.Denot). AreEngines g.H.Engine g.U.Engine g.O.Engine g.M.Engine plan past c.self.inside.home c.self.inside.update c.self.inside.order ms)
    (sym c.as_mut_slice.ensures.value) c.self.invariant.engines in
    let none = c.by_any.ensures.none c.if-not-by_any.true plan past asked in
    (c.self.view_is, subst (λ (r : Run). is_enabled_among (g.F.Among.has c.args.among.now) r.plan r.past c.args.port ≡ false) c.self.view_is none)

pub invariant_of-self : goal.invariant_of-self
invariant_of-self g c =
    let plan = c.self.inside.plan.plan in
    let past = reverse c.self.inside.events.items in
    let asked = subst (λ (ms : List g.row.M.Denot). AreEngines g.H.Engine g.U.Engine g.O.Engine g.M.Engine plan past c.self.inside.home c.self.inside.update c.self.inside.order ms)
    (sym c.as_mut_slice.ensures.value) c.self.invariant.engines in
    let u = c.by_any.ensures.unchanged c.if-not-by_any.true in
    let same = ap length u.3 ∙ ap length c.as_mut_slice.ensures.value ∙ sym c.self.inside.masters.ok.0 in
    let items = with_items_is c.self.inside.masters c.by_any.new.masters same ∙ u.3 in
    record {
      engines = rw (u.0, u.1, u.2, items) asked;
      room = c.self.invariant.room;
      left_is = c.self.invariant.left_is;
      idle_are = c.self.invariant.idle_are;
    }

pub invariant_of-self-2 : goal.invariant_of-self-2
invariant_of-self-2 g c =
    let view = c.self.inside.plan in
    let past = reverse c.self.inside.events.items in
    let out = c.by_any.new.out in
    let asked : AreEngines g.H.Engine g.U.Engine g.O.Engine g.M.Engine view.plan past c.self.inside.home c.self.inside.update c.self.inside.order c.as_mut_slice.result.now =
    subst (λ (ms : List g.row.M.Denot). AreEngines g.H.Engine g.U.Engine g.O.Engine g.M.Engine view.plan past c.self.inside.home c.self.inside.update c.self.inside.order ms)
    (sym c.as_mut_slice.ensures.value) c.self.invariant.engines in
    let moved = c.by_any.ensures.moved c.if-not-by_any.false view.plan past asked in
    let same = c.by_any.auto.masters ∙ ap length c.as_mut_slice.ensures.value ∙ sym c.self.inside.masters.ok.0 in
    let items = with_items_is c.self.inside.masters c.by_any.new.masters same in
    let room = c.self.invariant.room in
    let capacity = c.append.ensures.capacity in
    record {
      engines = subst (λ (t : Trace). AreEngines g.H.Engine g.U.Engine g.O.Engine g.M.Engine view.plan t c.by_any.new.home c.by_any.new.update c.by_any.new.order (with_items c.self.inside.masters c.by_any.new.masters).items)
          (sym c.append.ensures.items)
          (subst (λ (ms : List g.row.M.Denot). AreEngines g.H.Engine g.U.Engine g.O.Engine g.M.Engine view.plan (onto out past) c.by_any.new.home c.by_any.new.update c.by_any.new.order ms) (sym items) moved.1);
      room = omega (arith, room, capacity);
      left_is = subst (λ (t : Trace). LeftStands c.hear_all.new.self view.plan t) (sym c.append.ensures.items) (c.hear_all.ensures view.plan past c.self.invariant.left_is moved.1.legal);
      idle_are = none_idle view.plan (reverse c.append.new.events.items) c.none-self-inside.result c.none-self-inside.ensures;
    }

pub returns-clause-moved : goal.returns-clause-moved
returns-clause-moved g c = λ _.
    let view = c.self.inside.plan in
    let out = c.by_any.new.out in
    let moved = c.by_any.ensures.moved c.if-not-by_any.false view.plan (reverse c.self.inside.events.items) (subst (λ (ms : List g.row.M.Denot). AreEngines g.H.Engine g.U.Engine g.O.Engine g.M.Engine c.self.inside.plan.plan (reverse c.self.inside.events.items) c.self.inside.home c.self.inside.update c.self.inside.order ms) (sym c.as_mut_slice.ensures.value) c.self.invariant.engines) in (
      out,
      subst (λ (r : Run). IsStepAmong (g.F.Among.has c.args.among.now) r.plan r.past c.args.port out) c.self.view_is moved.0,
      ap (λ (t : Trace). record { plan = view.plan; room = view.room; past = t }) c.append.ensures.items ∙ ap (continued out) c.self.view_is,
    )

pub by_any-requires-clause-run : goal.by_any-requires-clause-run
by_any-requires-clause-run g c =
    let plan = c.self.inside.plan.plan in
    let past = reverse c.self.inside.events.items in
    let asked = subst (λ (ms : List g.row.M.Denot). AreEngines g.H.Engine g.U.Engine g.O.Engine g.M.Engine plan past c.self.inside.home c.self.inside.update c.self.inside.order ms)
    (sym c.as_mut_slice.ensures.value) c.self.invariant.engines in
    let low = subst (λ (r : Run). c.args.port < r.plan.header.ports) (sym c.self.view_is) c.requires.port in
    (plan, past, asked, low, subst (λ (r : Run). HasHolders (g.F.Among.has c.args.among.now) r.plan.header r.past) (sym c.self.view_is) c.requires.holders)
