use Rattle.std.proofs.Common.{◌≡◌, List, length, subst, sym, ap, ◌∙◌}
use Rattle.std.proofs.lemmas.List.{with_items_is}
use Rattle.ace_model.specs.declared.plans.PlanOp.{PlanOp}
use Rattle.ace_model.specs.Plans.{longer}
use Rattle.ace_engine.proofs.LongerPlans.{legal-longer}
use Rattle.ace_fabric.specs.Left.{CountsStand}
use Rattle.ace_fabric.specs.declared.left.PortLeft.{PortLeft}
use Rattle.ace_fabric.proofs.LongerRuns.{counts-grow}
use Rattle.ace_fabric.proofs.left.Left.push.Goals as goal

pub returns : goal.returns
returns c = λ plan past op s right.
    let old = c.args.self.now in
    let o : PlanOp = record { port = c.args.port; op = op } in
    let was = c.as_mut_slice.ensures.value in
    let same : length c.count_one_more.new.counts ≡ length old.counts.items = c.count_one_more.auto.counts ∙ ap length was in
    let items = with_items_is old.counts c.count_one_more.new.counts (same ∙ sym old.counts.ok.0) in
    let counts = subst (λ (xs : List PortLeft). CountsStand plan past xs) (sym was) s.counts in
    record {
      legal = legal-longer plan past o s.legal right;
      ports = s.ports;
      room = s.room;
      system = s.system;
      lines = s.lines;
      count = ap length items ∙ same ∙ s.count;
      counts = subst (λ (xs : List PortLeft). CountsStand (longer plan o) past xs) (sym items)
          (counts-grow plan past c.args.port op _ c.count_one_more.new.counts s.legal right c.count_one_more.auto.counts c.count_one_more.ensures.own c.count_one_more.ensures.others counts);
    }
