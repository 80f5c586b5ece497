use Rattle.std.proofs.Common.{Some, ◌∙◌, not, ap, sym}
use Rattle.ace_lineck.proofs.Terms.{LineRecord, is_unknown}
use Rattle.ace_lineck.proofs.KnownLines.{known-used}
use Rattle.ace_lineck.proofs.lines.LineCheck.knows.Goals as goal

pub returns : goal.returns
returns c r l s q =
    ap not (c.is_unknown.ensures ∙ ap (λ (v : LineRecord). is_unknown v.used) (c.record.ensures (Some l) q) ∙ ap is_unknown (s.lines l).used) ∙ sym (known-used r.past l)
