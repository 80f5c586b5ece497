use Rattle.std.proofs.Common.{◌≡◌, ◌++◌, drop}
use Rattle.ace_tables.specs.Answers.{rows_among, rows_to}
use Rattle.ace_tables.proofs.answers.push_rows.Given as goal

-- the rows so far and those of the responses that are left
abbrev pub invariant-loop-resp : goal.invariant-loop-resp
invariant-loop-resp l =
    l.rows ++ rows_among l.kind l.held l.update l.next (drop l.resp-index l.resp-items) ≡ l.initial.rows ++ rows_to l.kind l.held l.update l.next
