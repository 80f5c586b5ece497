use Rattle.std.proofs.Common.{sym, ◌∙◌}
use Rattle.ace_side.proofs.SameLines.{one_line, same_reason, none_of_line}
use Rattle.ace_side.proofs.laws.one_reason.Goals as goal

pub returns : goal.returns
returns c = record {
  line = λ bytes line other p q. one_line line other p.0 q.0 (p.1 ∙ sym q.1);
  one = same_reason;
  apart = none_of_line;
}
