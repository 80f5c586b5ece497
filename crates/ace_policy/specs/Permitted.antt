-- The rows that the policies pick are among the permitted ones.
use Rattle.std.proofs.Common.{◌≡◌, ℕ, zero, suc, ◌-◌, Bool, List, [], ◌∷◌, length, get_or, filter, slice_get, Contains, Option, Some, None, option_to_list, arith, refl, sym, ap, ◌∙◌}
use Rattle.std.proofs.lemmas.Bool.Decides.{nat_tests}
use Rattle.std.proofs.lemmas.List.Elements.{All-filter, All-contains_itself}
use Rattle.std.proofs.lemmas.Option.{slice_get_within, get_or_from_slice_get}
use Rattle.ace_codes.specs.declared.state.LineState.{LineState}
use Rattle.ace_codes.specs.declared.kind.SnoopKind.{SnoopKind}
use Rattle.ace_tables.specs.declared.rows.Row.{Row}
use Rattle.ace_tables.specs.Answers.{snoop_rows}
use Rattle.ace_tables.specs.Picks.{last_row, is_like, kept_row, keep_row, eager_row}
use Rattle.ace_policy.specs.Policies.{keep_rows, eager_rows}

-- what stands at a place is contained
pub Contains-at : (xs : List Row) (i : ℕ) (x : Row) → slice_get xs i ≡ Some x → Contains xs x
Contains-at xs i x h = (i, slice_get_within xs i x h, get_or_from_slice_get xs i x x h)

-- the one element of a list of one
one-element : (o : Option Row) (row : Row) → Contains (option_to_list o) row → o ≡ Some row
one-element None row h = grind (arith, h.1)
one-element (Some x) row (zero, lt, is) = ap Some is
one-element (Some x) row (suc k, lt, is) = grind (arith, lt)

pub Contains-one : (o : Option Row) (row : Row) → o ≡ Some row → Contains (option_to_list o) row
Contains-one None row h = grind (arith, nat_tests)
Contains-one (Some x) row h = (zero, omega arith, grind (arith, h))

last_row-place : (row : Row) (rows : List Row) → last_row (row ∷ rows)
    ≡ slice_get (row ∷ rows) (length rows)
last_row-place row [] = refl
last_row-place row (second ∷ rows) = last_row-place second rows

-- the last row is the one at the last place
pub last_row-at : (rows : List Row) → last_row rows ≡ slice_get rows (length rows - 1)
last_row-at [] = refl
last_row-at (row ∷ rows) =
    let e : length rows ≡ length (row ∷ rows) - 1 = omega arith in
    last_row-place row rows ∙ ap (slice_get (row ∷ rows)) e

pub last_row-contained : (rows : List Row) (row : Row) → last_row rows ≡ Some row
    → Contains rows row
last_row-contained rows row h = Contains-at rows (length rows - 1) row (sym (last_row-at rows) ∙ h)

filter-contained : (p : Row → Bool) (rows : List Row) (row : Row)
    → Contains (filter p rows) row → Contains rows row
filter-contained p rows row h =
    let within : Contains rows (get_or (filter p rows) h.0 row) =
    All-filter p (Contains rows) rows (All-contains_itself rows) h.0 row h.1 in
    rw (← h.2) within

pub kept_row-contained : (rows : List Row) (row : Row) → kept_row rows ≡ Some row
    → Contains rows row
kept_row-contained [] row h = grind (arith, nat_tests)
kept_row-contained (first ∷ rows) row h =
    filter-contained (is_like first) (first ∷ rows) row
    (last_row-contained (filter (is_like first) (first ∷ rows)) row h)

pub keep_permitted : (snoop : SnoopKind) (held : LineState) (update : Bool) (row : Row)
    → Contains (keep_rows snoop held update) row → Contains (snoop_rows snoop held update) row
keep_permitted snoop held update row h =
    kept_row-contained (snoop_rows snoop held update) row
    (one-element (keep_row snoop held update) row h)

pub eager_permitted : (snoop : SnoopKind) (held : LineState) (update : Bool) (row : Row)
    → Contains (eager_rows snoop held update) row → Contains (snoop_rows snoop held update) row
eager_permitted snoop held update row h =
    last_row-contained (snoop_rows snoop held update) row
    (one-element (eager_row snoop held update) row h)

pub ruleset picked_steps = (Contains-one, Contains-at, last_row-at)
