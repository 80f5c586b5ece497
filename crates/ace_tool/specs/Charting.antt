-- What `chart` leaves.
use Rattle.std.specs.Prelude.{◌≡◌, ◌≢◌, ◌⊎◌, ℕ, true, List, [], ◌∷◌, Option, None, Some, codes}
use Rattle.std.specs.Io.KnownBytes.{Appends}
use Rattle.ace_tool.specs.Asked.{is_input}
use Rattle.ace_tool.specs.Batch.{Log}
use Rattle.ace_tool.specs.ChartAsked.{AsksChart, ChartAsked}
use Rattle.ace_tool.specs.ChartTexts.{chart_help, packed_to_draw, rows_line}
use Rattle.ace_tool.specs.Explaining.{TellsFinding, shut_line}
use Rattle.ace_tool.specs.Held.{Held, told_of}
use Rattle.ace_tool.specs.Pictures.{IsPicture}
use Rattle.ace_tool.specs.Reports.{line_of, status_of_fault}
use Rattle.ace_tool.specs.declared.report.Report.TheVariants as report
use Rattle.ace_tool.specs.Shelf.{Writes, WritesNone}
use Rattle.ace_tool.specs.declared.finding.Finding.TheVariants as finding
use Rattle.ace_tool.specs.declared.picture.NoPicture.{NoPicture}
use Rattle.ace_tool.specs.declared.picture.NoPicture.TheVariants.{Explained, TooManyRows, BadSide, Shut, Compressed}
use Rattle.ace_tool.specs.declared.picture.Picture.{Picture}
use Rattle.ace_tool.specs.declared.picture.Picture.TheVariants.{Drawn, Undrawn}

-- The text was written into the file that is asked for, or else told.
abbrev pub Puts : Option (List ℕ) → List ℕ → Option (List ℕ) → Option (List ℕ) → Log → Log → Type 0
Puts None text out out' written written' = Appends out out' text × WritesNone written written'
Puts (Some name) text out out' written written' =
    Appends out out' [] × Writes written written' name text

-- It was noted why there is no picture, with this status.
abbrev pub Notes : ChartAsked → NoPicture → Option (List ℕ) → Option (List ℕ) → ℕ → Type 0
Notes asked (Explained x) notes notes' status =
    TellsFinding asked.trace true (finding.Explained x) notes notes' status
Notes asked TooManyRows notes notes' status =
    Appends notes notes' (rows_line asked.trace asked.rows) × (status ≡ 6)
Notes asked (BadSide fault) notes notes' status =
    Appends notes notes' (line_of asked.side asked.trace (report.BadSide fault))
    × (status ≡ status_of_fault fault)
Notes asked (Shut error) notes notes' status =
    Appends notes notes' (shut_line asked.trace error) × (status ≡ 4)
Notes asked (Compressed packing) notes notes' status =
    Appends notes notes' (packed_to_draw asked.trace packing) × (status ≡ 4)

-- The picture was told or written, and nothing noted; or it was noted why there is none, and
-- nothing told or written.
abbrev pub Shows : ChartAsked → Picture → Option (List ℕ) → Option (List ℕ)
    → Option (List ℕ) → Option (List ℕ) → Log → Log → ℕ → Type 0
Shows asked (Drawn text) out out' notes notes' written written' status =
    (status ≡ 0) × Puts asked.out text.items out out' written written' × Appends notes notes' []
Shows asked (Undrawn reason) out out' notes notes' written written' status =
    Notes asked reason notes notes' status × Appends out out' [] × WritesNone written written'

-- The picture that is asked for was made, and shown.
abbrev pub Draws : (List ℕ → Held) → ChartAsked → Option (List ℕ)
    → Option (List ℕ) → Option (List ℕ) → Option (List ℕ) → Option (List ℕ)
    → Log → Log → ℕ → Type 0
Draws holds asked input out out' notes notes' written written' status =
    (picture : Picture) × IsPicture holds asked (is_input asked.trace)
    (told_of (holds asked.trace)) input picture
    × Shows asked picture out out' notes notes' written written' status

-- The words behind `chart` ask nothing.
abbrev pub AsksNoChart : List (List ℕ) → Type 0
AsksNoChart words = (words ≢ codes "--help" ∷ []) × ((chart : ChartAsked) → ¬ AsksChart words chart)

-- Where no output failed: what the words behind `chart` ask was done; or help was asked for and
-- told; or they ask nothing, and the usage was noted.
abbrev pub Charts : (List ℕ → Held) → List (List ℕ) → Option (List ℕ)
    → Option (List ℕ) → Option (List ℕ) → Option (List ℕ) → Option (List ℕ)
    → Log → Log → ℕ → Type 0
Charts holds words input out out' notes notes' written written' status =
    ((asked : ChartAsked) × AsksChart words asked
    × Draws holds asked input out out' notes notes' written written' status)
    ⊎ ((words ≡ codes "--help" ∷ []) × (status ≡ 0) × Appends out out' chart_help)
    ⊎ (AsksNoChart words × (status ≡ 2) × Appends notes notes' chart_help)
