use Rattle.std.proofs.Common.{ap, sym, ◌∙◌}
use Rattle.ace_event.specs.declared.header.Header.{Header}
use Rattle.ace_model.specs.Plans.{PlanWithRoom}
use Rattle.ace_runs.specs.Follows.{is_done}
use Rattle.ace_fabric.specs.Runs.{Run}
use Rattle.ace_fabric.proofs.fabric.Fabric.done.Goals as goal

pub is_none-requires : goal.is_none-requires
is_none-requires g c = ap (λ (h : Header). h.ports) c.header.ensures ∙ ap (λ (v : PlanWithRoom). v.plan.header.ports) c.view.ensures.view ∙ sym c.self.invariant.left_is.count

pub returns : goal.returns
returns g c = c.is_none.ensures _ _ c.self.invariant.left_is ∙ ap (λ (r : Run). is_done r.plan r.past) c.self.view_is
