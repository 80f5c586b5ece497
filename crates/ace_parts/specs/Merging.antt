-- Results of the parts of one list of traces.
use Rattle.std.specs.Prelude.{◌≡◌, ◌<◌, ◌≤◌, ℕ, true, List, bytes_eq, length, map}
use Rattle.std.specs.Borrow.{Bor}
use Rattle.std.specs.List.{list_any}
use Rattle.ace_batch.specs.Json.{results_json}
use Rattle.ace_batch.specs.Shards.{part_of}
use Rattle.ace_batch.specs.declared.entry.Entry.{Entry}

-- the texts as the program has them
abbrev pub texts_of : List (Bor (List ℕ)) → List (List ℕ)
texts_of texts = map (λ text. text.now) texts

-- What is written of the results of part K of so many parts of this list, where all of its traces
-- were looked at.
abbrev pub part_text : ℕ → ℕ → List Entry → List ℕ
part_text part parts entries = results_json part parts 0 (part_of part parts entries)

-- The texts are what is written of the results of the parts of this list, each of them once: they
-- are as many as there are parts, and what is written of each part is among them.
abbrev pub ArePartsOf : List (List ℕ) → List Entry → Type 0
ArePartsOf texts entries = (part : ℕ) → 0 < part → part ≤ length texts
    → list_any (bytes_eq (part_text part (length texts) entries)) texts ≡ true
