use Rattle.std.proofs.Common.{◌≡◌, ◌≤◌, length, reverse}
use Rattle.ace_cert.specs.Walk.{facts_behind}
use Rattle.ace_cert.proofs.verification.lines.facts_behind.Given as goal

abbrev pub invariant-loop-k : goal.invariant-loop-k
invariant-loop-k l = record {
  within : l.k ≤ length l.marks;
  same : facts_behind (reverse l.marks) l.newest l.point ≡ facts_behind (reverse l.marks) l.k l.point;
}

abbrev pub decreases-loop-k : goal.decreases-loop-k
decreases-loop-k l = l.k
