use Rattle.std.proofs.Common.{rules, ◌≡◌, get_or, sym, subst, ◌∙◌}
use Rattle.ace_sysck.proofs.Terms.{PortMessagesStand, silent}
use Rattle.ace_sysck.proofs.MessageSteps.{in_order-is}
use Rattle.ace_sysck.proofs.messages.Messages.lets_begin.Goals as goal

pub returns-in-Some : goal.returns-in-Some
returns-in-Some c = λ r x stands low addr dom bar port.
    let m = get_or c.args.self.now.ports.items c.args.port silent in
    let here : m ≡ c.in-Some.kept.now = search rules in
    let kept : PortMessagesStand r.past x.port c.in-Some.kept.now = subst (PortMessagesStand r.past x.port) here (subst (λ p. PortMessagesStand r.past p m) (sym port) (stands.ports c.args.port)) in
    c.is_in_order.ensures x addr dom bar ∙ sym (in_order-is r.past x c.in-Some.kept.now kept)
