use Rattle.std.proofs.Common.{◌<◌, ◌≤◌, ℕ}
use Rattle.ace_lineck.specs.Stands as lines
use Rattle.ace_origins.specs.Origins.{IsNotThere}
use Rattle.ace_portck.specs.Targets.{Recording}
use Rattle.ace_origins.proofs.search.first_word.Given as goal

-- none of the words so far is it
abbrev pub invariant-loop-number : goal.invariant-loop-number
invariant-loop-number l = record {
  few : l.number ≤ 4;
  none : (r : Recording) → lines.Stands l.lines r → (k : ℕ) → k < l.number → IsNotThere r.header r.past l.line k l.word;
}
