use Rattle.std.proofs.Common.{◌≡◌, ◌≤◌, [], drop, length}
use Rattle.ace_expected.specs.Texts.{add_rows}
use Rattle.ace_expected.proofs.text.rows_text.Given as goal

-- the answers so far, and the others
abbrev pub invariant-loop-i : goal.invariant-loop-i
invariant-loop-i l = record {
  few : l.i ≤ length l.rows;
  so_far : add_rows l.words.items (drop l.i l.rows) ≡ add_rows [] l.rows;
}
