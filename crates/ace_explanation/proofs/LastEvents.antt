-- The last event of one row, and those of the others.
use Rattle.std.proofs.Common.{◌≡◌, ◌+◌, ◌<◌, ◌∷◌, ℕ, List, map, drop, get_or, length}
use Rattle.std.proofs.lemmas.List.{at_drop_more}
use Rattle.ace_journal.specs.declared.rows.Row.{Row}

pub last_step : (rows : List Row) (i : ℕ) (d : Row) → i < length rows
    → map (λ (row : Row). row.last) (drop i rows)
    ≡ (get_or rows i d).last ∷ map (λ (row : Row). row.last) (drop (i + 1) rows)
last_step rows i d within = at_drop_more (map (λ (row : Row). row.last)) rows i d within
