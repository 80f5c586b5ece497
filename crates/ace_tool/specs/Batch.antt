-- What a batch leaves.
use Rattle.std.specs.Prelude.{◌≡◌, ◌≢◌, ◌⊎◌, ◌-◌, ℕ, length, List, [], ◌∷◌, Option, None, Some, codes}
use Rattle.std.specs.Io.KnownBytes.{Appends}
use Rattle.ace_batch.specs.Counts.{status_of_all}
use Rattle.ace_batch.specs.Json.{results_json}
use Rattle.ace_batch.specs.Junit.{junit_text}
use Rattle.ace_batch.specs.Looked.{AreLookedAt}
use Rattle.ace_batch.specs.Summaries.{told_text}
use Rattle.ace_batch.specs.declared.entry.Entry.{Entry}
use Rattle.ace_tool.specs.BatchAsked.{AsksBatch, BatchAsked}
use Rattle.ace_tool.specs.BatchTexts.{batch_help, list_note}
use Rattle.ace_tool.specs.Held.{Held}
use Rattle.ace_tool.specs.Listed.{AreAsked}
use Rattle.ace_tool.specs.Results.{IsResult}
use Rattle.ace_tool.specs.Shelf.{Writes, WritesNone}
use Rattle.ace_tool.specs.declared.list_file.ListErr.{ListErr}

abbrev pub Log : Type 0
Log = Option (List (List ℕ × List ℕ))

-- A file with this text was written, if one was asked for.
abbrev pub WritesIf : Option (List ℕ) → List ℕ → Log → Log → Type 0
WritesIf None text written written' = WritesNone written written'
WritesIf (Some name) text written written' = Writes written written' name text

-- These are the results of the traces that are asked for and are looked at: one for each, in their
-- order, that is right of what the files hold; and so many are left, which are not.
pub record AreResults (asked : BatchAsked) (holds knows : List ℕ → Held) (input : Option (List ℕ))
    (entries : List Entry) (left : ℕ) : Type 0 where
  pub paths : List (List ℕ)
  pub asked_for : AreAsked asked holds input paths
  pub right : AreLookedAt asked.extras.fail_fast
      (λ path e. IsResult asked.options knows path e) paths entries
  pub others : left ≡ length paths - length entries

-- The files that were asked for were written.
abbrev pub WritesBoth : BatchAsked → List ℕ → List ℕ → Log → Log → Type 0
WritesBoth asked json junit written written' =
    (between : Log) × WritesIf asked.extras.json json written between
    × WritesIf asked.extras.junit junit between written'

-- These texts were told, and the files that were asked for were written.
abbrev pub TellsTexts : BatchAsked → List ℕ → List ℕ → List ℕ
    → Option (List ℕ) → Option (List ℕ) → Log → Log → Type 0
TellsTexts asked told json junit out out' written written' =
    Appends out out' told × WritesBoth asked json junit written written'

-- The batch was done, and the status is that of all of its traces that were looked at.
pub record IsDone (holds knows : List ℕ → Held) (asked : BatchAsked)
    (input out out' : Option (List ℕ))
    (written written' : Log) (status : ℕ) : Type 0 where
  pub entries : List Entry
  pub left : ℕ
  pub results : AreResults asked holds knows input entries left
  pub told : TellsTexts asked (told_text asked.extras.failed left entries)
      (results_json asked.extras.part asked.extras.parts left entries)
      (junit_text entries) out out' written
      written'
  pub total : status ≡ status_of_all entries

-- Where no output failed: it was done, and nothing was noted; or the list of traces could not be
-- had, or there was no memory, and that was noted.
abbrev pub DoesBatch : (List ℕ → Held) → (List ℕ → Held) → BatchAsked
    → Option (List ℕ) → Option (List ℕ) → Option (List ℕ)
    → Option (List ℕ) → Option (List ℕ) → Log → Log → ℕ → Type 0
DoesBatch holds knows asked input out out' notes notes' written written' status =
    (IsDone holds knows asked input out out' written written' status × Appends notes notes' [])
    ⊎ ((error : ListErr) × (status ≡ 4) × Appends notes notes' (list_note error))
    ⊎ ((status ≡ 7) × Appends notes notes' (codes "out of memory\n"))

-- The words behind `batch` ask nothing.
abbrev pub AsksNoBatch : List (List ℕ) → Type 0
AsksNoBatch words = (words ≢ codes "--help" ∷ []) × ((batch : BatchAsked) → ¬ AsksBatch words batch)

-- Where no output failed: what the words behind `batch` ask was done; or help was asked for and
-- told; or they ask nothing, and the usage was noted; or there was no memory for them.
abbrev pub Batches : (List ℕ → Held) → (List ℕ → Held) → List (List ℕ)
    → Option (List ℕ) → Option (List ℕ) → Option (List ℕ)
    → Option (List ℕ) → Option (List ℕ) → Log → Log → ℕ → Type 0
Batches holds knows words input out out' notes notes' written written' status =
    ((asked : BatchAsked) × AsksBatch words asked
    × DoesBatch holds knows asked input out out' notes notes' written written' status)
    ⊎ ((words ≡ codes "--help" ∷ []) × (status ≡ 0) × Appends out out' batch_help)
    ⊎ (AsksNoBatch words × (status ≡ 2) × Appends notes notes' batch_help)
    ⊎ ((status ≡ 7) × Appends notes notes' (codes "out of memory\n"))
