-- Whether the recording of an accepted trace is whole, by what is found of its side file.
use Rattle.std.specs.Prelude.{◌==◌, ◌&&◌, ℕ, if◌then◌else◌, not, Option, None, Some}
use Rattle.arrayvec.specs.ArrayString.{ArrayString}
use Rattle.ace_side.specs.declared.line.SideEnd.{SideEnd}
use Rattle.ace_side.specs.declared.line.SideEnd.TheVariants.{End, Broken, Cut}
use Rattle.ace_tool.specs.declared.gap.Gap.{Gap}
use Rattle.ace_tool.specs.declared.gap.Gap.TheVariants as gap
use Rattle.ace_tool.specs.declared.check_options.EndRules.{EndRules}
use Rattle.ace_tool.specs.declared.report.Accepted.{Accepted}
use Rattle.ace_tool.specs.declared.report.Report.{Report}
use Rattle.ace_tool.specs.declared.report.Report.TheVariants.{Told, Unfinished, BadSide}
use Rattle.ace_tool.specs.declared.side.SideFound.{SideFound}
use Rattle.ace_tool.specs.declared.side.SideFound.TheVariants.{Absent, Ends, Faulty}
use Rattle.ace_verdict.specs.declared.verdict.Verdict.TheVariants as verdict

-- why it isn't, where the trace has so many events and the side file ends so
abbrev pub gap_at : EndRules → ℕ → Option SideEnd → Option ArrayString → Option Gap
gap_at ends events None last = Some gap.NoEnd
gap_at ends events (Some (End count)) last =
    if count == events then None else Some (gap.OtherEnd count)
gap_at ends events (Some (Broken count)) last = Some (gap.Stopped count last)
gap_at ends events (Some (Cut count)) last =
    if ends.allow_cut then (if count == events then None else Some (gap.OtherCut count))
    else Some (gap.Cut count)

-- the same without a side file
abbrev pub gap_without : EndRules → Option Gap
gap_without ends = if ends.require_end then Some gap.NoSide else None

-- the same where transactions are outstanding at the end, and none may be
abbrev pub gap_open : EndRules → ℕ → Option Gap
gap_open ends outstanding =
    if ends.drained && not (outstanding == 0) then Some (gap.Open outstanding) else None

-- what is told of an accepted trace that has this gap or none
abbrev pub report_with : Accepted → Option Gap → Report
report_with accepted None = Told (verdict.Accepted accepted.events) accepted.outstanding
report_with accepted (Some gap) = Unfinished accepted.events gap

-- the same where its side file tells of this gap or of none, which goes before what is outstanding
abbrev pub report_by : EndRules → Accepted → Option Gap → Report
report_by ends accepted None = report_with accepted (gap_open ends accepted.outstanding)
report_by ends accepted (Some gap) = report_with accepted (Some gap)

-- the same, by what is found of its side file
abbrev pub judged : EndRules → Accepted → SideFound → Report
judged ends accepted Absent = report_by ends accepted (gap_without ends)
judged ends accepted (Ends end last) =
    report_by ends accepted (gap_at ends accepted.events end last)
judged ends accepted (Faulty fault) = BadSide fault
