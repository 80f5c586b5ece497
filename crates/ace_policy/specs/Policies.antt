-- Which rows each policy may pick.
use Rattle.std.specs.Prelude.{ℕ, ◌%◌, Bool, List, Option, length, slice_get, option_to_list}
use Rattle.ace_codes.specs.declared.state.LineState.{LineState}
use Rattle.ace_codes.specs.declared.kind.SnoopKind.{SnoopKind}
use Rattle.ace_tables.specs.declared.rows.Row.{Row}
use Rattle.ace_tables.specs.Answers.{snoop_rows}
use Rattle.ace_tables.specs.Picks.{keep_row, eager_row}

-- the one row of a master that keeps the line
abbrev pub keep_rows : SnoopKind → LineState → Bool → List Row
keep_rows snoop held update = option_to_list (keep_row snoop held update)

-- the one row of a master that gives the line up
abbrev pub eager_rows : SnoopKind → LineState → Bool → List Row
eager_rows snoop held update = option_to_list (eager_row snoop held update)

-- the row at a word, counted from 0 again and again
abbrev pub row_at_word : SnoopKind → LineState → Bool → ℕ → Option Row
row_at_word snoop held update word =
    slice_get (snoop_rows snoop held update) (word % length (snoop_rows snoop held update))

-- the numbers by which a caller picks rows, and the place of the next of them
pub record Picks : Type 0 where
  pub picks : List ℕ
  pub next : ℕ
