use Rattle.std.proofs.Common.{◌≡◌, ◌==◌, List, take, map, filter, ap, ◌∙◌}
use Rattle.std.proofs.lemmas.List.{take_all}
use Rattle.ace_model.specs.declared.plans.PlanOp.{PlanOp}
use Rattle.ace_master.proofs.port_operations.PortOperations.new.Goals as goal

pub returns : goal.returns
returns c =
    let xs = c.operations-planned-items.result.now in
    let all : take c.loop-planned.planned-index xs ≡ xs = take_all c.loop-planned.planned-index xs (c.loop-planned-test.false) in
    c.loop-planned.invariant.items ∙ ap (λ (ys : List PlanOp). map (λ o. o.op) (filter (λ o. o.port == c.args.port) ys)) (all ∙ c.operations-planned-items.ensures)
