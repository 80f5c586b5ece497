use Rattle.std.proofs.Common.{nat_lt, sym, ◌∙◌}
use Rattle.std.proofs.lemmas.Bool.{and_parts}
use Rattle.ace_model.specs.Transactions.{is_ace}
use Rattle.ace_explain.proofs.OrderLetters.{message-none, message-some, none_comes, other_comes}
use Rattle.ace_explain.proofs.order_clauses.clause_of_forwarding.Goals as goal

pub returns-in-None : goal.returns-in-None
returns-in-None c = λ r addr snoop y k.
    let ace = (and_parts (nat_lt c.args.port r.header.ports) (is_ace r.header c.args.port) k).1 in
    none_comes r c.args.port addr snoop (message-none r.past c.args.port (sym (c.next_message.ensures r y ace) ∙ c.in-None.is))

pub returns-in-Some : goal.returns-in-Some
returns-in-Some c = λ r addr snoop y k.
    let ace = (and_parts (nat_lt c.args.port r.header.ports) (is_ace r.header c.args.port) k).1 in
    other_comes r c.args.port addr snoop (sym (c.comes_second.ensures r addr snoop y k) ∙ c.if-comes_second.false)
    (message-some r.past c.args.port _ (sym (c.next_message.ensures r y ace) ∙ c.in-Some.is))
