-- The line of one trace, and those of the others.
use Rattle.std.proofs.Common.{◌≡◌, ◌+◌, ◌<◌, ◌++◌, ℕ, List, drop, flat_map, get_or, length}
use Rattle.std.proofs.lemmas.List.{at_drop_more}
use Rattle.ace_batch.specs.Json.{entry_json}
use Rattle.ace_batch.specs.declared.entry.Entry.{Entry}

pub entry_step : (entries : List Entry) (i : ℕ) (d : Entry) → i < length entries
    → flat_map entry_json (drop i entries) ≡ entry_json (get_or entries i d) ++ flat_map entry_json (drop (i + 1) entries)
entry_step entries i d within = at_drop_more (flat_map entry_json) entries i d within
