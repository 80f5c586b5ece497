-- What was counted of traces, and whether it is right.
use Rattle.std.specs.Prelude.{◌≡◌, ◌++◌, ⊤, ℕ, Bool, true, false, List, [], ◌∷◌, Option, None, Some, IfSome, codes, map}
use Rattle.ace_cover.specs.Counts.{AreCounts}
use Rattle.ace_cover.specs.Tallies.{Tally, no_tally, with_trace}
use Rattle.ace_points.specs.Points.{all_points}
use Rattle.ace_verdict.specs.Verdict.{IsDueVerdict, IsVerdictWithin}
use Rattle.ace_tool.specs.Asked.{is_input}
use Rattle.ace_tool.specs.Checked.{accepted_of}
use Rattle.ace_tool.specs.Explaining.{no_limits, told_name}
use Rattle.ace_tool.specs.Held.{Held, told_of}
use Rattle.ace_tool.specs.Packing.{advice_of, packing_of}
use Rattle.ace_tool.specs.Reports.{report_text, shown_name, status_of}
use Rattle.ace_tool.specs.declared.report.Accepted.{Accepted}
use Rattle.ace_tool.specs.declared.report.Report.{Report}
use Rattle.ace_tool.specs.declared.report.Report.TheVariants.{Told, Shut, Compressed}

-- a trace, by the name of its file, what was told of it, and what was counted of its events
pub record Covered : Type 0 where
  pub name : List ℕ
  pub report : Report
  pub hits : List ℕ

-- This is to be told of these bytes: how they are compressed, or else the verdict on them; and
-- where they are an accepted trace, the hits are the counts of its events. A fault of the input and
-- want of memory may take the place of both.
abbrev pub IsCountedIn : List ℕ → Report → List ℕ → Type 0
IsCountedIn bytes (Told v outstanding) hits = IsVerdictWithin no_limits bytes v
    × AreCounts no_limits all_points bytes hits v × (IsDueVerdict v → packing_of bytes ≡ None)
IsCountedIn bytes (Compressed packing) hits = packing_of bytes ≡ Some packing
IsCountedIn bytes report hits = ⊥

-- The same of a file, which can perhaps not be opened.
abbrev pub IsCountedOf : Option (List ℕ) → Report → List ℕ → Type 0
IsCountedOf told (Shut error) hits = ⊤
IsCountedOf told report hits = IfSome told (λ bytes. IsCountedIn bytes report hits)

-- Of standard input what was left is told; of a file what it holds, and the input stays.
abbrev pub IsCountedBy : Bool → Option (List ℕ) → Option (List ℕ) → Report → List ℕ
    → Option (List ℕ) → Type 0
IsCountedBy true told input report hits left =
    IfSome input (λ bytes. IsCountedIn bytes report hits)
IsCountedBy false told input report hits left = IsCountedOf told report hits × (left ≡ input)

-- This is to be told and counted of the trace of this name.
abbrev pub IsCounted : (List ℕ → Held) → List ℕ → Option (List ℕ) → Report → List ℕ
    → Option (List ℕ) → Type 0
IsCounted holds name input report hits left =
    IsCountedBy (is_input name) (told_of (holds name)) input report hits left

-- What was told and counted of traces, the newest first, is right.
abbrev pub AreCounted : (List ℕ → Held) → Option (List ℕ) → List Covered → Option (List ℕ)
    → Type 0
AreCounted holds input [] left = left ≡ input
AreCounted holds input (c ∷ past) left =
    (between : Option (List ℕ)) × AreCounted holds input past between
    × IsCounted holds c.name between c.report c.hits left

-- the names of the traces, in their order
abbrev pub names_of : List Covered → List (List ℕ)
names_of [] = []
names_of (c ∷ past) = names_of past ++ c.name ∷ []

-- their statuses
abbrev pub statuses_of : List Covered → List ℕ
statuses_of covered = map (λ c. status_of c.report) covered

-- an accepted trace counts, and another one doesn't
abbrev pub with_accepted : Tally → Option Accepted → List ℕ → Tally
with_accepted tally None hits = tally
with_accepted tally (Some accepted) hits = with_trace tally accepted.events hits

abbrev pub tally_of : List Covered → Tally
tally_of [] = no_tally all_points
tally_of (c ∷ past) = with_accepted (tally_of past) (accepted_of c.report) c.hits

-- what is said of a trace that isn't accepted
abbrev pub why_uncounted : List ℕ → Report → List ℕ
why_uncounted name (Compressed packing) =
    advice_of packing ++ (shown_name name ++ codes " | acetool cover -")
why_uncounted name report = report_text (shown_name name) report

unfoldable pub uncounted_line : List ℕ → Report → List ℕ
uncounted_line name report =
    codes "acetool: " ++ (told_name name ++ (codes ": " ++ (why_uncounted name report
    ++ codes ": counts for nothing\n")))

-- it is noted of one that isn't accepted
abbrev pub note_by : List ℕ → Report → Option Accepted → List ℕ
note_by name report (Some accepted) = []
note_by name report None = uncounted_line name report

abbrev pub notes_of : List Covered → List ℕ
notes_of [] = []
notes_of (c ∷ past) = notes_of past ++ note_by c.name c.report (accepted_of c.report)
