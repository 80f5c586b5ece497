use Rattle.std.proofs.Common.{ℕ, ap, ◌∙◌}
use Rattle.std.specs.Option.{option_map}
use Rattle.ace_sysck.specs.declared.inboxes.Message.{Message}
use Rattle.ace_sysck.specs.Inboxes.{message_of}
use Rattle.ace_sysck.proofs.Forwarding.InboxRules.{inbox_of, next_message_is}
use Rattle.ace_sysck.proofs.inboxes.Inboxes.next_sender.Goals as goal

pub returns : goal.returns
returns c = λ r stands ace.
    let s = c.args.self.now in
    let b = inbox_of r s c.args.port stands ace in
    let sender : Message → ℕ = λ m. m.first.port in
    c.sender_of.ensures ∙ ap (λ o. option_map sender (message_of o)) b.1 ∙ ap (option_map sender) (next_message_is r s c.args.port b.0 stands ace b.1)
