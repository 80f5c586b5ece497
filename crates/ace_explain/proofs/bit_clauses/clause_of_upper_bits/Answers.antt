use Rattle.std.proofs.Common.{sym, ◌∙◌}
use Rattle.ace_explain.proofs.bit_clauses.clause_of_upper_bits.Goals as goal

pub returns : goal.returns
returns c = λ r last word p l. c.clause_of_bits.ensures r c.args.port c.args.id last word p l (sym (c.named_read.ensures r p) ∙ c.in-Some.is)
