-- What the words behind `gen` ask, and what it answers.
use Rattle.std.specs.Prelude.{◌≡◌, ◌⊎◌, ℕ, List, [], ◌∷◌, Option, codes}
use Rattle.std.specs.Io.KnownBytes.{Appends}
use Rattle.ace_call.specs.Number.{IsNumber}
use Rattle.ace_script.specs.Text.{plan_text}
use Rattle.ace_cover_script.specs.Covering.{covering}
use Rattle.ace_cover_script.specs.Texts.{gen_help}
use Rattle.ace_cover_script.specs.declared.wish.Wish.{Wish}
use Rattle.ace_cover_script.specs.declared.wish.Wish.TheVariants.{Help, Script}

-- The words ask this.
abbrev pub Asks : List (List ℕ) → Wish → Type 0
Asks words Help = words ≡ codes "--help" ∷ []
Asks words (Script number) =
    (word : List ℕ) × (words ≡ codes "--cover" ∷ word ∷ []) × IsNumber word number

-- the text that answers
abbrev pub text_of : Wish → List ℕ
text_of Help = gen_help
text_of (Script number) = plan_text (covering number)

-- the text was told, and nothing noted
abbrev pub Tells : List ℕ → Option (List ℕ) → Option (List ℕ) → Option (List ℕ)
    → Option (List ℕ) → ℕ → Type 0
Tells text out out' notes notes' status =
    (status ≡ 0) × Appends out out' text × Appends notes notes' []

-- nothing was told, and this noted, with this status
abbrev pub NotesOnly : List ℕ → ℕ → Option (List ℕ) → Option (List ℕ) → Option (List ℕ)
    → Option (List ℕ) → ℕ → Type 0
NotesOnly text wanted out out' notes notes' status =
    (status ≡ wanted) × Appends out out' [] × Appends notes notes' text

-- Where no output failed: what the words ask was told, or they ask nothing, and the usage was
-- noted. Want of memory may take the place of a script.
abbrev pub Generates : List (List ℕ) → Option (List ℕ) → Option (List ℕ)
    → Option (List ℕ) → Option (List ℕ) → ℕ → Type 0
Generates words out out' notes notes' status =
    ((wish : Wish) × Asks words wish × Tells (text_of wish) out out' notes notes' status)
    ⊎ (((wish : Wish) → ¬ Asks words wish) × NotesOnly gen_help 2 out out' notes notes' status)
    ⊎ NotesOnly (codes "out of memory\n") 7 out out' notes notes' status
