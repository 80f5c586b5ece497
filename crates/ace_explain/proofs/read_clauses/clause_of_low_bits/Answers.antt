use Rattle.std.proofs.Common.{sym, ◌∙◌}
use Rattle.ace_explain.proofs.ReadLetters.{not_exokay, exokay_of_failed, exokay_of_other}
use Rattle.ace_explain.proofs.read_clauses.clause_of_low_bits.Goals as goal

pub returns-then-is_okay : goal.returns-then-is_okay
returns-then-is_okay c = λ r resp last word p s.
    not_exokay r _ _ resp last word c.in-Some.x (sym (c.named_read.ensures r p) ∙ c.in-Some.is) (sym (c.is_okay.ensures r s) ∙ c.if-is_okay.true)

pub returns-then-x : goal.returns-then-x
returns-then-x c = λ r resp last word p s.
    exokay_of_failed r _ _ resp last word c.in-Some.x (sym (c.named_read.ensures r p) ∙ c.in-Some.is) (sym (c.is_okay.ensures r s) ∙ c.if-is_okay.false) c.if-x.true

pub returns-else-x : goal.returns-else-x
returns-else-x c = λ r resp last word p s.
    exokay_of_other r _ _ resp last word c.in-Some.x (sym (c.named_read.ensures r p) ∙ c.in-Some.is) c.if-x.false
