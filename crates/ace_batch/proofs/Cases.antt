-- The text of one trace, and those of the others.
use Rattle.std.proofs.Common.{◌≡◌, ◌+◌, ◌<◌, ◌++◌, ℕ, List, drop, flat_map, get_or, length}
use Rattle.std.proofs.lemmas.List.{at_drop_more}
use Rattle.ace_batch.specs.Junit.{case_text}
use Rattle.ace_batch.specs.declared.entry.Entry.{Entry}

pub case_step : (entries : List Entry) (i : ℕ) (d : Entry) → i < length entries
    → flat_map case_text (drop i entries) ≡ case_text (get_or entries i d) ++ flat_map case_text (drop (i + 1) entries)
case_step entries i d within = at_drop_more (flat_map case_text) entries i d within
