use Rattle.std.proofs.Common.{sym, ◌∙◌}
use Rattle.ace_explain.proofs.BitLetters.{granted-here, shared-without}
use Rattle.ace_explain.proofs.bit_clauses.must_be_shared.Goals as goal

pub returns-then-not-is_line : goal.returns-then-not-is_line
returns-then-not-is_line c = λ r p i l out may. sym (shared-without r p i c.args.x.now out (sym c.is_line.ensures ∙ c.if-not-is_line.true))

pub returns : goal.returns
returns c = λ r p i l out may.
    c.must_be_shared.ensures r l c.place.ensures (granted-here r p i c.args.x.now out l.accepted may (sym c.is_line.ensures ∙ c.if-not-is_line.false))
