use Rattle.std.proofs.Common.{sym, ◌∙◌}
use Rattle.ace_explain.proofs.OrderLetters.{answers_none}
use Rattle.ace_explain.proofs.order_clauses.clause_of_k34.Goals as goal

pub returns-in-None : goal.returns-in-None
returns-in-None c = λ r p y. answers_none r c.args.event.now (sym (c.response_to.ensures r p) ∙ c.in-None.is)
