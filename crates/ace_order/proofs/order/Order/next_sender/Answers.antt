use Rattle.std.proofs.Common.{ℕ, None, if◌then◌else◌, sym, ap, ◌∙◌}
use Rattle.std.specs.Option.{option_map}
use Rattle.ace_event.specs.declared.header.Header.{Header}
use Rattle.ace_model.specs.Transactions.{is_ace}
use Rattle.ace_portck.specs.Targets.{Recording}
use Rattle.ace_sysck.specs.declared.inboxes.Message.{Message}
use Rattle.ace_sysck.specs.Inboxes.{next_message}
use Rattle.ace_order.proofs.order.Order.next_sender.Goals as goal

pub returns-then-is_ace : goal.returns-then-is_ace
returns-then-is_ace c = λ plan past s.
    let q = c.args.port in
    let r : Recording = record { header = plan.header; past = past } in
    let sender : Message → ℕ = λ m. m.first.port in
    let ace = sym (c.is_ace.ensures ∙ ap (λ (g : Header). is_ace g q) s.header) ∙ c.if-is_ace.true in
    c.next_sender.ensures r s.system ace ∙ ap (λ b. option_map sender (if b then next_message past q else None)) (sym ace)

pub returns-else-is_ace : goal.returns-else-is_ace
returns-else-is_ace c = λ plan past s.
    let q = c.args.port in
    let sender : Message → ℕ = λ m. m.first.port in
    let lite = sym (c.is_ace.ensures ∙ ap (λ (g : Header). is_ace g q) s.header) ∙ c.if-is_ace.false in
    ap (λ b. option_map sender (if b then next_message past q else None)) (sym lite)
