use Rattle.std.proofs.Common.{sym, ◌∙◌}
use Rattle.ace_explain.proofs.BitLetters.{passed-with, passed-without}
use Rattle.ace_explain.proofs.bit_clauses.has_passed_data.Goals as goal

pub returns-then-not-is_line : goal.returns-then-not-is_line
returns-then-not-is_line c = λ r p i l out may. sym (passed-without r p i c.args.x.now out l.accepted (sym c.is_line.ensures ∙ c.if-not-is_line.true))

pub returns : goal.returns
returns c = λ r p i l out may.
    c.has_passed_data.ensures r c.args.x.now.addr l c.place.ensures
    ∙ passed-with r p i c.args.x.now out l.accepted may (sym c.is_line.ensures ∙ c.if-not-is_line.false)
