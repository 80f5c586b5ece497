-- What a call of `cover` leaves, by its words.
use Rattle.std.specs.Prelude.{◌≡◌, ◌≢◌, ◌⊎◌, ℕ, List, [], ◌∷◌, Option, codes}
use Rattle.std.specs.Io.KnownBytes.{Appends}
use Rattle.ace_tool.specs.CoverAsked.{AsksCover}
use Rattle.ace_tool.specs.CoverTexts.{cover_help}
use Rattle.ace_tool.specs.Covering.{CoverAsked, DoesCover}
use Rattle.ace_tool.specs.Held.{Held}

-- The words behind `cover` ask nothing.
abbrev pub AsksNoCover : List (List ℕ) → Type 0
AsksNoCover words =
    (words ≢ codes "--help" ∷ []) × ((asked : CoverAsked) → ¬ AsksCover words asked)

-- Where no output failed: what the words behind `cover` ask was done; or help was asked for and
-- told; or they ask nothing, and the usage was noted; or there was no memory for them.
abbrev pub Covers : (List ℕ → Held) → List (List ℕ) → Option (List ℕ) → Option (List ℕ)
    → Option (List ℕ) → Option (List ℕ) → Option (List ℕ) → ℕ → Type 0
Covers holds words input out out' notes notes' status =
    ((asked : CoverAsked) × AsksCover words asked
    × DoesCover holds asked input out out' notes notes' status)
    ⊎ ((words ≡ codes "--help" ∷ []) × (status ≡ 0) × Appends out out' cover_help)
    ⊎ (AsksNoCover words × (status ≡ 2) × Appends out out' [] × Appends notes notes' cover_help)
    ⊎ ((status ≡ 7) × Appends out out' [] × Appends notes notes' (codes "out of memory\n"))
