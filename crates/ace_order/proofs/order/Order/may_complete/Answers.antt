use Rattle.std.proofs.Common.{is_none, sym, ap, ◌∙◌}
use Rattle.ace_codes.specs.declared.kind.SnoopKind.TheVariants as snoop
use Rattle.ace_codes.specs.Snoops.{ac_code}
use Rattle.ace_event.specs.declared.header.Header.{Header}
use Rattle.ace_model.specs.Transactions.{is_ace}
use Rattle.ace_model.proofs.Tables.ReadSnoops.{kind_of_code}
use Rattle.ace_portck.specs.Targets.{Recording}
use Rattle.ace_order.proofs.PlainReads.{none-where}
use Rattle.ace_order.proofs.SyncSteps.{completion-decides, completion-port, no-completion}
use Rattle.ace_order.proofs.order.Order.may_complete.Goals as goal

pub returns-then-is_ace : goal.returns-then-is_ace
returns-then-is_ace c = λ plan past s.
    let h = plan.header in
    let p = c.args.port in
    let r : Recording = record { header = h; past = past } in
    let same = ap (λ (g : Header). is_ace g p) s.current.header in
    let ace = sym (c.is_ace.ensures ∙ same) ∙ c.if-is_ace.true in
    let rule = c.rule_of_ac.ensures r (ac_code snoop.DvmComplete) s.current.system (completion-port h past p ace) (kind_of_code snoop.DvmComplete) in
    none-where c.rule_of_ac.result c.is_none.result c.is_none.ensures ∙ ap is_none rule ∙ completion-decides h past s.current.legal.accepted p ace

pub returns-else-is_ace : goal.returns-else-is_ace
returns-else-is_ace c = λ plan past s.
    let same = ap (λ (g : Header). is_ace g c.args.port) s.current.header in
    c.if-is_ace.false ∙ sym (no-completion plan.header past s.current.legal.accepted c.args.port (sym (c.is_ace.ensures ∙ same) ∙ c.if-is_ace.false))
