-- The line of one trace, and those of the others.
use Rattle.std.proofs.Common.{◌≡◌, ◌+◌, ◌<◌, ◌++◌, ℕ, Bool, List, drop, flat_map, fold, get_or, length, take}
use Rattle.std.proofs.lemmas.List.{at_drop_more}
use Rattle.std.proofs.lemmas.List.Sums.{fold_more}
use Rattle.ace_batch.specs.Rows.{shown_row, width_with}
use Rattle.ace_batch.specs.declared.entry.Entry.{Entry}

pub width_step : (entries : List Entry) (i : ℕ) (d : Entry) → i < length entries
    → fold width_with 8 (take (i + 1) entries) ≡ width_with (fold width_with 8 (take i entries)) (get_or entries i d)
width_step entries i d within = fold_more width_with 8 entries i d within

pub row_step : (failed : Bool) (width : ℕ) (entries : List Entry) (i : ℕ) (d : Entry) → i < length entries
    → flat_map (shown_row failed width) (drop i entries)
    ≡ shown_row failed width (get_or entries i d) ++ flat_map (shown_row failed width) (drop (i + 1) entries)
row_step failed width entries i d within = at_drop_more (flat_map (shown_row failed width)) entries i d within
