use Rattle.std.proofs.Common.{true, is_none, ap, ◌∙◌}
use Rattle.ace_portck.specs.Targets.{Recording}
use Rattle.ace_order.proofs.PlainReads.{none-where}
use Rattle.ace_order.proofs.order.Order.lets_answer.Goals as goal

pub returns : goal.returns
returns c = λ plan past s out half.
    let x = c.args.half.now in
    let r : Recording = record { header = plan.header; past = past } in
    let rule =
    c.rule_of_half_r.ensures r x.port x.id true 0 s.system out half
    (c.first_unordered-unordered.ensures r s.ports) (c.first_incomplete-incomplete.ensures r s.ports) in
    none-where c.rule_of_half_r.result c.is_none.result c.is_none.ensures ∙ ap is_none rule
