use Rattle.std.proofs.Common.{sym, ap, ◌∙◌}
use Rattle.ace_model.specs.Transactions.{issued}
use Rattle.ace_explain.proofs.PartLetters.{issues_none, of_completion}
use Rattle.ace_explain.proofs.address_clauses.clause_of_k9.Goals as goal

pub returns-in_default : goal.returns-in_default
returns-in_default c = λ r p s.
    issues_none r c.args.event.now (ap (λ n. issued n c.args.event.now) (sym (c.place.ensures r p)) ∙ sym c.issued.ensures ∙ c.in_default.is)

pub returns-then-is_barrier_half : goal.returns-then-is_barrier_half
returns-then-is_barrier_half c = λ r p s.
    c.clause_of_half.ensures r c.args.event.now s
    (ap (λ n. issued n c.args.event.now) (sym (c.place.ensures r p)) ∙ sym c.issued.ensures ∙ c.in-Some.is)
    (sym c.is_barrier_half.ensures ∙ c.if-is_barrier_half.true)

pub returns-then-is_message_part : goal.returns-then-is_message_part
returns-then-is_message_part c = λ r p s.
    c.clause_of_part.ensures r c.args.event.now s
    (ap (λ n. issued n c.args.event.now) (sym (c.place.ensures r p)) ∙ sym c.issued.ensures ∙ c.in-Some.is)
    (sym c.is_message_part.ensures ∙ c.if-is_message_part.true)

pub returns-else-is_message_part : goal.returns-else-is_message_part
returns-else-is_message_part c = λ r p s.
    of_completion r c.args.event.now c.in-Some.x
    (ap (λ n. issued n c.args.event.now) (sym (c.place.ensures r p)) ∙ sym c.issued.ensures ∙ c.in-Some.is)
    (sym c.is_barrier_half.ensures ∙ c.if-is_barrier_half.false) (sym c.is_message_part.ensures ∙ c.if-is_message_part.false)
