use Rattle.std.proofs.Common.{is_none, ap, ◌∙◌, refl, false}
use Rattle.std.proofs.lemmas.Bool.{and_from, lt-ltb}
use Rattle.ace_portck.specs.Targets.{Recording}
use Rattle.ace_order.proofs.PlainReads.{none-where}
use Rattle.ace_fabric.proofs.WhatIsLeft.{completion-kind, owes-test}
use Rattle.ace_fabric.proofs.left.Left.owes.Goals as goal

pub returns : goal.returns
returns c = λ plan past s low.
    let p = c.args.port in
    let r : Recording = record { header = plan.header; past = past } in
    let rule = c.rule_of_completion_ar.ensures r 0 14 1 0 false s.system completion-kind (and_from _ _ (lt-ltb p plan.header.ports low) refl) in
    none-where c.rule_of_completion_ar.result c.is_none.result c.is_none.ensures ∙ ap is_none rule ∙ owes-test plan.header past p
