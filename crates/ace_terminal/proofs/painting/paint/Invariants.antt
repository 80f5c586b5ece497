use Rattle.std.proofs.Common.{◌≡◌, ◌≤◌, ◌++◌}
use Rattle.ace_terminal.specs.Painted.{painted}
use Rattle.ace_terminal.proofs.Lines.{still_painted}
use Rattle.ace_terminal.proofs.painting.paint.Given as goal

-- the lines before are painted, and the present one began here
abbrev pub invariant-loop-place : goal.invariant-loop-place
invariant-loop-place l = record {
  began : l.start ≤ l.place;
  so_far : l.painted.items ++ still_painted l.text l.start l.place ≡ painted l.text;
}
