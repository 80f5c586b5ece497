-- The rows that a cache takes which keeps lines as long as it can, and one which gives them up as
-- soon as it can (our choice).
use Rattle.std.specs.Prelude.{Bool, ◌&&◌, List, [], ◌∷◌, Option, Some, None}
use Rattle.std.specs.List.{filter}
use Rattle.ace_codes.specs.declared.state.LineState.{LineState}
use Rattle.ace_codes.specs.declared.kind.SnoopKind.{SnoopKind}
use Rattle.ace_codes.specs.Responses.{transfers_data}
use Rattle.ace_tables.specs.declared.rows.Row.{Row}
use Rattle.ace_tables.specs.States.{same_state}
use Rattle.ace_tables.specs.Answers.{same_test, snoop_rows}

abbrev pub last_row : List Row → Option Row
last_row [] = None
last_row (row ∷ []) = Some row
last_row (row ∷ rows) = last_row rows

-- the next state and DataTransfer are those of the other row
abbrev pub is_like : Row → Row → Bool
is_like first row =
    same_state first.next row.next && same_test (transfers_data first.resp)
    (transfers_data row.resp)

-- the first next state and its least DataTransfer, with WasUnique 1 where it may be
abbrev pub kept_row : List Row → Option Row
kept_row [] = None
kept_row (first ∷ rows) = last_row (filter (is_like first) (first ∷ rows))

-- the row of a cache that keeps: the first next state that has a row, DataTransfer 1 only where it
-- must be, and WasUnique 1 where it may be
abbrev pub keep_row : SnoopKind → LineState → Bool → Option Row
keep_row kind held update = kept_row (snoop_rows kind held update)

-- the row of a cache that gives up: the last next state that has a row, and DataTransfer and
-- WasUnique 1 where they may be
abbrev pub eager_row : SnoopKind → LineState → Bool → Option Row
eager_row kind held update = last_row (snoop_rows kind held update)
