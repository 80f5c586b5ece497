-- The row that is kept, as far as a loop over the rows has come.
use Rattle.std.proofs.Common.{◌≡◌, ℕ, ◌+◌, ◌≤◌, Bool, true, false, List, [], ◌∷◌, ◌++◌, length, take, get_or, filter, slice_get, Some, arith, refl, sym, subst}
use Rattle.std.proofs.lemmas.Bool.Decides.{nat_tests}
use Rattle.std.proofs.lemmas.Grind.{common_steps}
use Rattle.std.proofs.lemmas.List.Elements.{filter_more}
use Rattle.std.proofs.lemmas.Option.{slice_get_within, get_or_from_slice_get}
use Rattle.ace_codes.specs.declared.state.LineState.{LineState}
use Rattle.ace_codes.specs.declared.state.LineState.TheVariants.{I, UC, UD, SC, SD}
use Rattle.ace_codes.specs.Responses.{transfers_data}
use Rattle.ace_tables.specs.declared.rows.Row.{Row}
use Rattle.ace_tables.specs.States.{same_state}
use Rattle.ace_tables.specs.Answers.{same_test}
use Rattle.ace_tables.specs.Picks.{last_row, is_like, kept_row}

same_state-itself : (st : LineState) → same_state st st ≡ true
same_state-itself I = refl
same_state-itself UC = refl
same_state-itself UD = refl
same_state-itself SC = refl
same_state-itself SD = refl

same_test-itself : (b : Bool) → same_test b b ≡ true
same_test-itself true = refl
same_test-itself false = refl

is_like-itself : (row : Row) → is_like row row ≡ true
is_like-itself row = rw (same_state-itself row.next, same_test-itself (transfers_data row.resp)) refl

last_row-push : (rows : List Row) (row : Row) → last_row (rows ++ row ∷ []) ≡ Some row
last_row-push [] row = refl
last_row-push (first ∷ []) row = refl
last_row-push (first ∷ second ∷ rows) row = last_row-push (second ∷ rows) row

-- before the first step it is the first row
pub kept-first : (rows : List Row) (first : Row) → slice_get rows 0 ≡ Some first → last_row (filter (is_like first) (take 1 rows)) ≡ Some first
kept-first [] first h = grind (arith, nat_tests)
kept-first (row ∷ rows) first h =
    let e : row ≡ first = grind (arith, h) in
    rw (e, is_like-itself first) refl

-- a row like the first takes its place
pub kept-like : (rows : List Row) (first row : Row) (i : ℕ) → slice_get rows i ≡ Some row → is_like first row ≡ true → last_row (filter (is_like first) (take (i + 1) rows)) ≡ Some row
kept-like rows first row i at like =
    let e : get_or rows i row ≡ row = get_or_from_slice_get rows i row row at in
    rw (filter_more (is_like first) rows i row (slice_get_within rows i row at), e, like)
    (last_row-push (filter (is_like first) (take i rows)) row)

-- another row changes nothing
pub kept-other : (rows : List Row) (first row kept : Row) (i : ℕ) → slice_get rows i ≡ Some row → is_like first row ≡ false → last_row (filter (is_like first) (take i rows)) ≡ Some kept → last_row (filter (is_like first) (take (i + 1) rows)) ≡ Some kept
kept-other rows first row kept i at like h =
    let e : get_or rows i row ≡ row = get_or_from_slice_get rows i row row at in
    rw (filter_more (is_like first) rows i row (slice_get_within rows i row at), e, like) (grind (arith, common_steps, h))

-- after the last step it is that of the whole list
pub kept-all : (rows : List Row) (first kept : Row) (n : ℕ) → slice_get rows 0 ≡ Some first → length rows ≤ n → last_row (filter (is_like first) (take n rows)) ≡ Some kept → kept_row rows ≡ Some kept
kept-all [] first kept n at le h = grind (arith, nat_tests)
kept-all (row ∷ rows) first kept n at le h =
    let e : row ≡ first = grind (arith, at) in
    let whole : take n (row ∷ rows) ≡ row ∷ rows = grind (arith, common_steps) in
    let P : Row → Type 0 = λ r. kept_row (r ∷ rows) ≡ Some kept in
    subst P (sym e) (rw (whole, e) at h)

pub ruleset kept_steps = (kept-first, kept-like, kept-other, kept-all)
