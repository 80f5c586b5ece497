-- Text that goes to a sink by way of a page, from which it is given in large pieces.
use Rattle.std.specs.Prelude.{ℕ, ◌≡◌, List, ◌++◌, Option}
use Rattle.std.specs.Io.KnownBytes.{Appends}

-- a front of the text was appended
abbrev pub AppendsPart : Option (List ℕ) → Option (List ℕ) → List ℕ → Type 0
AppendsPart old new text =
    (part : List ℕ) × (rest : List ℕ) × (text ≡ part ++ rest) × Appends old new part

-- Of the text, a front was appended, and the rest of it stands on the page.
pub record IsUnderWay (before now : Option (List ℕ)) (page text : List ℕ) : Type 0 where
  pub given : List ℕ
  pub cut : text ≡ given ++ page
  pub bytes : Appends before now given

-- Of the text that was to be put, all but the rest is under way, behind what was under way before.
abbrev pub Puts : Option (List ℕ) → List ℕ → List ℕ → Option (List ℕ) → List ℕ → List ℕ → Type 0
Puts old old_page text new new_page rest =
    (before : Option (List ℕ)) (so_far : List ℕ) → IsUnderWay before old old_page so_far
    → (now : List ℕ) × IsUnderWay before new new_page now × (now ++ rest ≡ so_far ++ text)

-- The sink failed: a front of the text was appended, behind what was under way before.
abbrev pub PutsPart : Option (List ℕ) → List ℕ → List ℕ → Option (List ℕ) → Type 0
PutsPart old old_page text new =
    (before : Option (List ℕ)) (so_far : List ℕ) → IsUnderWay before old old_page so_far
    → AppendsPart before new (so_far ++ text)
