use Rattle.std.proofs.Common.{sym, ◌∙◌}
use Rattle.ace_explain.proofs.LineLooks.{passed-here}
use Rattle.ace_explain.proofs.line_looks.has_passed.Goals as goal

pub returns-then-is_granted : goal.returns-then-is_granted
returns-then-is_granted c = λ r p chan i l out.
    c.has_passed_data.ensures r c.args.x.now.addr l c.place.ensures
    ∙ passed-here r.header r.past l.accepted p chan i c.args.x.now out (sym (c.is_granted.ensures r l) ∙ c.if-is_granted.true)
