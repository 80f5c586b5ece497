-- What `batch --merge` leaves: the results in files put together.
use Rattle.std.specs.Prelude.{◌≡◌, ◌⊎◌, ℕ, Bool, false, not, List, [], ◌∷◌, Option}
use Rattle.std.specs.Io.KnownBytes.{Appends}
use Rattle.std.specs.List.{AllZip, list_any}
use Rattle.ace_batch.specs.Counts.{status_of_all}
use Rattle.ace_batch.specs.Summaries.{summary_text}
use Rattle.ace_batch.specs.declared.entry.Entry.{Entry}
use Rattle.ace_parts.specs.Merging.{ArePartsOf}
use Rattle.ace_tool.specs.Asked.{has_hyphen}
use Rattle.ace_tool.specs.BatchTexts.{batch_help}
use Rattle.ace_tool.specs.Held.{Held, told_of}
use Rattle.ace_tool.specs.ListTexts.{IsWhole}

-- the words are names of files: there are some, and none begins with `-`
abbrev pub are_names : List (List ℕ) → Bool
are_names [] = false
are_names (word ∷ words) = not (list_any has_hyphen (word ∷ words))

-- These are the texts of the files of these names.
abbrev pub AreTexts : (List ℕ → Held) → List (List ℕ) → List (List ℕ) → Type 0
AreTexts holds names texts = AllZip (λ name text. IsWhole (told_of (holds name)) text) names texts

-- The texts of the files are the results of the parts of one list of traces, each once; the summary
-- of that list was told, and the status is that of all of its traces.
pub record IsMerged (holds : List ℕ → Held) (names : List (List ℕ))
    (out out' : Option (List ℕ)) (status : ℕ) : Type 0 where
  pub texts : List (List ℕ)
  pub entries : List Entry
  pub held : AreTexts holds names texts
  pub parts : ArePartsOf texts entries
  pub told : Appends out out' (summary_text 0 entries)
  pub total : status ≡ status_of_all entries

-- the status where they aren't: a text is malformed, or a file could not be had, or there was no
-- memory
abbrev pub IsFault : ℕ → Type 0
IsFault status = (status ≡ 3) ⊎ (status ≡ 4) ⊎ (status ≡ 7)

-- The summary of these results was told, and the status is that of all of their traces; or there
-- was no memory for it.
abbrev pub TellsSummary : List Entry → Option (List ℕ) → Option (List ℕ)
    → Option (List ℕ) → Option (List ℕ) → ℕ → Type 0
TellsSummary entries out out' notes notes' status =
    (Appends out out' (summary_text 0 entries) × (status ≡ status_of_all entries)
    × Appends notes notes' [])
    ⊎ (IsFault status × Appends out out' [] × ((told : List ℕ) × Appends notes notes' told))

-- Where no output failed: the results were put together; or the words are wrong, and the usage was
-- noted; or they could not be, and that was noted, and nothing told.
abbrev pub Merges : (List ℕ → Held) → List (List ℕ) → Option (List ℕ)
    → Option (List ℕ) → Option (List ℕ) → Option (List ℕ) → ℕ → Type 0
Merges holds words out out' notes notes' status =
    (IsMerged holds words out out' status × Appends notes notes' [])
    ⊎ ((are_names words ≡ false) × (status ≡ 2) × Appends out out' []
    × Appends notes notes' batch_help)
    ⊎ (IsFault status × Appends out out' [] × ((told : List ℕ) × Appends notes notes' told))
