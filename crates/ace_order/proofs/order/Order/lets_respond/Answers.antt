use Rattle.std.proofs.Common.{true, is_none, sym, ap, ◌∙◌}
use Rattle.ace_portck.specs.Targets.{Recording}
use Rattle.ace_order.proofs.PlainReads.{none-where}
use Rattle.ace_order.proofs.order.Order.lets_respond.Goals as goal

pub returns-then-is_message_part : goal.returns-then-is_message_part
returns-then-is_message_part c = λ plan past s out half.
    let x = c.args.read.now in
    let r : Recording = record { header = plan.header; past = past } in
    let part = sym c.is_message_part.ensures ∙ c.if-is_message_part.true in
    none-where c.rule_of_message_r.result c.is_none.result c.is_none.ensures ∙ ap is_none (c.rule_of_message_r.ensures r x.port x.id true 0 s.system out part)

pub returns-else-is_message_part : goal.returns-else-is_message_part
returns-else-is_message_part c = λ plan past s out half.
    let x = c.args.read.now in
    let r : Recording = record { header = plan.header; past = past } in
    let part = sym c.is_message_part.ensures ∙ c.if-is_message_part.false in
    none-where c.rule_of_r.result c.is_none-else-is_message_part.result c.is_none-else-is_message_part.ensures ∙ ap is_none (c.rule_of_r.ensures r x.port x.id true 0 s.system out half part)
