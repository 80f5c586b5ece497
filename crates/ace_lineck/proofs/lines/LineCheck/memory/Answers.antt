use Rattle.std.proofs.Common.{Some, ap, ◌∙◌}
use Rattle.ace_lineck.proofs.Terms.{LineRecord}
use Rattle.ace_lineck.proofs.lines.LineCheck.memory.Goals as goal

pub returns : goal.returns
returns c r s = ap (λ (v : LineRecord). v.memory) (c.record.ensures (Some c.args.line) c.place.ensures) ∙ (s.lines c.args.line).memory.memory
