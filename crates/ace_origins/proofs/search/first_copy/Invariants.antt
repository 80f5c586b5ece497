use Rattle.std.proofs.Common.{◌≡◌, ◌<◌, ◌≤◌, ℕ, Some}
use Rattle.ace_lineck.specs.Stands as lines
use Rattle.ace_origins.specs.Origins.{IsInCopy}
use Rattle.ace_portck.specs.Targets.{Recording}
use Rattle.ace_origins.proofs.search.first_copy.Given as goal

-- none of the ports so far has it
abbrev pub invariant-loop-port : goal.invariant-loop-port
invariant-loop-port l = record {
  few : l.port ≤ 32;
  none : (r : Recording) → lines.Stands l.lines r → l.place ≡ lines.place_on l.lines (Some l.line)
      → (q : ℕ) → q < l.port → IsInCopy r.header r.past l.line l.number l.word q → ⊥;
}
