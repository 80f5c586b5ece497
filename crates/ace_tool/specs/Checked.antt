-- What was told of traces, and whether it is right.
use Rattle.std.specs.Prelude.{◌≡◌, ⊤, ℕ, Bool, true, false, List, [], ◌∷◌, ◌++◌, Option, None, Some, IfSome, map}
use Rattle.ace_side.specs.declared.line.SideEnd.TheVariants.{End, Cut}
use Rattle.ace_verdict.specs.Ended.{IsOutstanding, LeavesOutstanding}
use Rattle.ace_verdict.specs.Verdict.{IsDueVerdict, IsVerdictWithin, ReadsSoundWithin}
use Rattle.ace_verdict.specs.declared.limits.Limits.{Limits}
use Rattle.ace_verdict.specs.declared.verdict.Verdict.TheVariants as verdict
use Rattle.ace_tool.specs.Asked.{Options, SideAsked, is_input}
use Rattle.ace_tool.specs.Gaps.{judged}
use Rattle.ace_tool.specs.Held.{Held, told_of}
use Rattle.ace_tool.specs.Packing.{packing_of}
use Rattle.ace_tool.specs.Reports.{line_of, status_of}
use Rattle.ace_tool.specs.Sides.{IsFound, place_of}
use Rattle.ace_tool.specs.declared.check_options.EndRules.{EndRules}
use Rattle.ace_tool.specs.declared.report.Accepted.{Accepted}
use Rattle.ace_tool.specs.declared.report.Report.{Report}
use Rattle.ace_tool.specs.declared.report.Report.TheVariants.{Told, Shut, Compressed}
use Rattle.ace_tool.specs.declared.side.SideFound.{SideFound}
use Rattle.ace_tool.specs.declared.side.SideFound.TheVariants.{Absent, Ends}

-- a trace, by the name of its file, and what was told of it
pub record Checked : Type 0 where
  pub name : List ℕ
  pub report : Report

-- This is to be told of these bytes alone, within the limits: how they are compressed, or else the
-- verdict on them, and how many transactions are outstanding at the end of an accepted trace. A
-- fault of the input and want of memory may take the place of both.
abbrev pub IsRead : Limits → List ℕ → Report → Type 0
IsRead limits bytes (Told v outstanding) = IsVerdictWithin limits bytes v
    × IsOutstanding bytes v outstanding × (IsDueVerdict v → packing_of bytes ≡ None)
IsRead limits bytes (Compressed packing) = packing_of bytes ≡ Some packing
IsRead limits bytes report = ⊥

-- The same of a file, which can perhaps not be opened.
abbrev pub IsOpened : Limits → Option (List ℕ) → Report → Type 0
IsOpened limits told (Shut error) = ⊤
IsOpened limits told report = IfSome told (λ bytes. IsRead limits bytes report)

-- Of standard input what was left is told; of a file what it holds, and the input stays.
abbrev pub IsNextBy : Limits → Bool → Option (List ℕ) → Option (List ℕ) → Report
    → Option (List ℕ) → Type 0
IsNextBy limits true told input report left = IfSome input (λ bytes. IsRead limits bytes report)
IsNextBy limits false told input report left = IsOpened limits told report × (left ≡ input)

-- an accepted trace: how many events it has, and how many transactions are outstanding at its end
abbrev pub accepted_of : Report → Option Accepted
accepted_of (Told (verdict.Accepted events) outstanding) =
    Some (record { events = events; outstanding = outstanding })
accepted_of report = None

-- The first was told of a trace alone, and the second with its side file, which is that of an
-- accepted trace.
abbrev pub IsJudged : Options → (List ℕ → Held) → List ℕ → Option Accepted → Report
    → Report → Type 0
IsJudged options holds name None told report = report ≡ told
IsJudged options holds name (Some accepted) told report =
    (found : SideFound) × IsFound holds (place_of options.side name) found
    × (report ≡ judged options.ends accepted found)

-- This is to be told of the trace of this name, by what the files hold and by standard input before
-- and after.
pub record IsNext (options : Options) (holds : List ℕ → Held) (name : List ℕ)
    (input : Option (List ℕ)) (report : Report) (left : Option (List ℕ)) : Type 0 where
  pub told : Report
  pub alone : IsNextBy options.limits (is_input name) (told_of (holds name)) input told left
  pub judged : IsJudged options holds name (accepted_of told) told report

-- What was told of traces, the newest first, is right.
abbrev pub AreRight : Options → (List ℕ → Held) → Option (List ℕ) → List Checked
    → Option (List ℕ) → Type 0
AreRight options holds input [] left = left ≡ input
AreRight options holds input (c ∷ past) left =
    (between : Option (List ℕ)) × AreRight options holds input past between
    × IsNext options holds c.name between c.report left

-- the names of the traces, in their order
abbrev pub names_of : List Checked → List (List ℕ)
names_of [] = []
names_of (c ∷ past) = names_of past ++ c.name ∷ []

-- their lines
abbrev pub lines_of : SideAsked → List Checked → List ℕ
lines_of side [] = []
lines_of side (c ∷ past) = lines_of side past ++ line_of side c.name c.report

-- their statuses
abbrev pub statuses_of : List Checked → List ℕ
statuses_of checked = map (λ c. status_of c.report) checked

-- The bytes are a whole trace with all that acceptance promises, and where none may be, no
-- transaction is outstanding at its end.
abbrev pub IsSoundIn : Options → List ℕ → Type 0
IsSoundIn options bytes = ReadsSoundWithin options.limits.events bytes
    × (options.ends.drained ≡ true → LeavesOutstanding bytes 0)

-- Of standard input this holds; what a file holds is such a trace.
abbrev pub IsSoundBy : Options → Bool → Option (List ℕ) → Type 0 → Type 0
IsSoundBy options true told of_input = of_input
IsSoundBy options false told of_input = IfSome told (IsSoundIn options)

-- A trace of so many events isn't said to be broken off: there is no side file, and none has to be;
-- or it ends with END and this number, or with CUT and this number, and that may be.
abbrev pub IsWholeBy : EndRules → ℕ → SideFound → Type 0
IsWholeBy ends events Absent = ends.require_end ≡ false
IsWholeBy ends events (Ends (Some (End count)) last) = count ≡ events
IsWholeBy ends events (Ends (Some (Cut count)) last) = (ends.allow_cut ≡ true) × (count ≡ events)
IsWholeBy ends events found = ⊥

-- By its side file the trace of this name is whole.
abbrev pub IsWhole : Options → (List ℕ → Held) → List ℕ → Type 0
IsWhole options holds name =
    (events : ℕ) × (found : SideFound) × IsFound holds (place_of options.side name) found
    × IsWholeBy options.ends events found

-- The traces that were told of are whole, also by their side files, and have all that acceptance
-- promises, where their bytes are told: each is coherent, its exclusive stores are exclusive, its
-- barriers order, and its Syncs wait for all; and no transaction is outstanding where none may be.
abbrev pub AreSound : Options → (List ℕ → Held) → Option (List ℕ) → List Checked
    → Type 0
AreSound options holds input [] = ⊤
AreSound options holds input (c ∷ past) = AreSound options holds input past
    × IsWhole options holds c.name
    × IsSoundBy options (is_input c.name) (told_of (holds c.name)) ((between : Option (List ℕ))
    × AreRight options holds input past between × IfSome between (IsSoundIn options))
