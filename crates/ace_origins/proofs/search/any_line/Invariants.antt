use Rattle.std.proofs.Common.{◌≤◌, length}
use Rattle.ace_journal.specs.Journals.{lines_of}
use Rattle.ace_lineck.specs.Stands as lines
use Rattle.ace_origins.specs.Found.{IsLeast}
use Rattle.ace_portck.specs.Targets.{Recording}
use Rattle.ace_since.specs.Kept.{SinceStands}
use Rattle.ace_origins.proofs.search.any_line.Given as goal

-- of the lines so far the least was found
abbrev pub invariant-loop-place : goal.invariant-loop-place
invariant-loop-place l = record {
  few : l.place ≤ length (lines_of l.journal);
  least : (r : Recording) → lines.Stands l.lines r → SinceStands r.header r.past l.since
      → IsLeast r.header r.past l.word (lines_of l.journal) l.place l.least;
}
