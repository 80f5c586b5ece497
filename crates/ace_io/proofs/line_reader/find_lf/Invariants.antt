use Rattle.std.proofs.Common.{◌≤◌, ◌-◌, length, take}
use Rattle.ace_io.specs.Line.{HasNoLf}
use Rattle.ace_io.proofs.line_reader.find_lf.Given as goal

abbrev pub invariant-loop-at : goal.invariant-loop-at
invariant-loop-at l = record {
  within : l.at ≤ length l.piece;
  no_lf : HasNoLf (take l.at l.piece);
}

abbrev pub decreases-loop-at : goal.decreases-loop-at
decreases-loop-at l = length l.piece - l.at
