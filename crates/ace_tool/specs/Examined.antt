-- What is found in the file of a trace, and what is to be told of it.
use Rattle.std.specs.Prelude.{◌≡◌, ⊤, ℕ, List, Option, None, Some, IfSome}
use Rattle.ace_explanation.specs.Explanations.{IsExplanationWithin, outstanding_in, verdict_of}
use Rattle.ace_tool.specs.Asked.{Options}
use Rattle.ace_tool.specs.Checked.{IsJudged, IsOpened, accepted_of}
use Rattle.ace_tool.specs.Held.{Held, told_of}
use Rattle.ace_tool.specs.Packing.{packing_of}
use Rattle.ace_tool.specs.declared.finding.Finding.{Finding}
use Rattle.ace_tool.specs.declared.finding.Finding.TheVariants as finding
use Rattle.ace_tool.specs.declared.report.Report.{Report}
use Rattle.ace_tool.specs.declared.report.Report.TheVariants.{Told, Shut, Compressed}
use Rattle.ace_verdict.specs.Verdict.{IsDueVerdict}
use Rattle.ace_verdict.specs.declared.limits.Limits.{Limits}

-- what `check` tells of a trace alone, by what was found in it
abbrev pub report_of : Finding → Report
report_of (finding.Explained x) = Told (verdict_of x) (outstanding_in x)
report_of (finding.Shut error) = Shut error
report_of (finding.Compressed packing) = Compressed packing

-- This was found in these bytes, within the limits, as `explain` finds it: how they are compressed,
-- or else an explanation of them. A fault of the input and want of memory may take the place of
-- both.
abbrev pub IsFoundWithin : Limits → List ℕ → Finding → Type 0
IsFoundWithin limits bytes (finding.Explained x) = IsExplanationWithin limits bytes x
    × (IsDueVerdict (verdict_of x) → packing_of bytes ≡ None)
IsFoundWithin limits bytes (finding.Compressed packing) = packing_of bytes ≡ Some packing
IsFoundWithin limits bytes (finding.Shut error) = ⊥

-- The same of a file, which can perhaps not be opened.
abbrev pub IsFoundFile : Limits → Option (List ℕ) → Finding → Type 0
IsFoundFile limits told (finding.Shut error) = ⊤
IsFoundFile limits told found = IfSome told (λ bytes. IsFoundWithin limits bytes found)

-- This was found in the file of this name, and this is to be told of it, by its side file too, as
-- `check` does.
pub record IsExamined (options : Options) (holds : List ℕ → Held) (name : List ℕ) (found : Finding)
    (report : Report) : Type 0 where
  pub explained : IsFoundFile options.limits (told_of (holds name)) found
  pub alone : IsOpened options.limits (told_of (holds name)) (report_of found)
  pub judged : IsJudged options holds name (accepted_of (report_of found)) (report_of found) report
