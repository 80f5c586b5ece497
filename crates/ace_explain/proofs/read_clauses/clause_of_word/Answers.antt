use Rattle.std.proofs.Common.{sym, ◌∙◌}
use Rattle.ace_explain.proofs.ReadLetters.{word_of_none, word_of_line}
use Rattle.ace_explain.proofs.read_clauses.clause_of_word.Goals as goal

pub returns-then-is_line_read_transaction : goal.returns-then-is_line_read_transaction
returns-then-is_line_read_transaction c = λ r resp last word p.
    word_of_line r _ _ resp last word c.in-Some.x (sym (c.named_read.ensures r p) ∙ c.in-Some.is) (sym c.is_line_read_transaction.ensures ∙ c.if-is_line_read_transaction.true)

pub returns-else-is_line_read_transaction : goal.returns-else-is_line_read_transaction
returns-else-is_line_read_transaction c = λ r resp last word p.
    word_of_none r _ _ resp last word c.in-Some.x (sym (c.named_read.ensures r p) ∙ c.in-Some.is) (sym c.is_line_read_transaction.ensures ∙ c.if-is_line_read_transaction.false)
