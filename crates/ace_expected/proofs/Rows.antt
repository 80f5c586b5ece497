-- Answers to a snoop, one after another.
use Rattle.std.proofs.Common.{◌≡◌, ◌<◌, ◌≤◌, ℕ, ◌+◌, List, ◌∷◌, Some, drop, get_or, length, refl, subst, sym, ◌∙◌}
use Rattle.std.specs.Prelude.{slice_get}
use Rattle.std.proofs.lemmas.List.{at_drop_more, drop_all}
use Rattle.std.proofs.lemmas.Option.{get_or_from_slice_get, slice_get_within}
use Rattle.ace_expected.specs.Texts.{add_rows, joined, row_text}
use Rattle.ace_tables.specs.declared.rows.Row.{Row}

rows_step : (rows : List Row) (words : List ℕ) (i : ℕ) (d : Row) → i < length rows
    → add_rows words (drop i rows) ≡ add_rows (joined words (row_text (get_or rows i d))) (drop (i + 1) rows)
unfolding add_rows
rows_step rows words i d within = rw (at_drop_more (add_rows words) rows i d within) refl

pub rows_next : (rows : List Row) (words new whole : List ℕ) (i : ℕ) (row : Row) → slice_get rows i ≡ Some row
    → add_rows words (drop i rows) ≡ whole → new ≡ joined words (row_text row) → add_rows new (drop (i + 1) rows) ≡ whole
rows_next rows words new whole i row some so_far added =
    let step = subst (λ r. add_rows words (drop i rows) ≡ add_rows (joined words (row_text r)) (drop (i + 1) rows))
    (get_or_from_slice_get rows i row row some) (rows_step rows words i row (slice_get_within rows i row some)) in
    rw added (sym step ∙ so_far)

pub rows_done : (rows : List Row) (words whole : List ℕ) (i : ℕ) → length rows ≤ i → add_rows words (drop i rows) ≡ whole → words ≡ whole
unfolding add_rows
rows_done rows words whole i past so_far = rw (drop_all i rows past) at so_far
