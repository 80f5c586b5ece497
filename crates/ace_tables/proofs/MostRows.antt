-- No snoop has more than 12 rows.
use Rattle.std.proofs.Common.{◌≡◌, ℕ, ◌+◌, ◌≤◌, Bool, true, false, length, lit≤, length-append}
use Rattle.ace_codes.specs.declared.kind.SnoopKind.{SnoopKind}
use Rattle.ace_codes.specs.declared.kind.SnoopKind.TheVariants.{ReadOnce}
use Rattle.ace_codes.specs.declared.state.LineState.{LineState}
use Rattle.ace_codes.specs.declared.state.LineState.TheVariants.{I, UC, UD, SC, SD}
use Rattle.ace_tables.specs.Answers.{rows_among, rows_to}

-- whatever the snoop, in each state, with an update or not
pub most_rows : (update : Bool) (held : LineState) (kind : SnoopKind)
    → length (rows_to kind held update UD) + length (rows_to kind held update SD) + length (rows_to kind held update UC) + length (rows_to kind held update SC) + length (rows_to kind held update I) ≤ 12
unfolding rows_to rows_among
most_rows true I ReadOnce = lit≤ tt
most_rows true UC ReadOnce = lit≤ tt
most_rows true UD ReadOnce = lit≤ tt
most_rows true SC ReadOnce = lit≤ tt
most_rows true SD ReadOnce = lit≤ tt
most_rows false I ReadOnce = lit≤ tt
most_rows false UC ReadOnce = lit≤ tt
most_rows false UD ReadOnce = lit≤ tt
most_rows false SC ReadOnce = lit≤ tt
most_rows false SD ReadOnce = lit≤ tt
most_rows _ _ _ = lit≤ tt

pub ruleset bounds = (most_rows, length-append)
