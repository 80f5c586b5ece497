-- What is told of a trace: its status and its text.
use Rattle.std.specs.Prelude.{ℕ, List, [], ◌∷◌, ◌++◌, ◌==◌, if◌then◌else◌, Some, None, codes, decimal}
use Rattle.std.specs.List.{list_any}
use Rattle.ace_explanation.specs.Texts.{verdict_text}
use Rattle.ace_verdict.specs.declared.verdict.Verdict.{Verdict}
use Rattle.ace_verdict.specs.declared.verdict.Verdict.TheVariants.{Accepted, Refused, Malformed, ReadFault, LimitEvents, LimitLines, NoMemory}
use Rattle.ace_outstanding.specs.Words.{outstanding_note, outstanding_words}
use Rattle.ace_side.specs.Reasons.{number_of_reason as number_of_side_reason}
use Rattle.ace_tool.specs.Asked.{Named, SideAsked, is_input}
use Rattle.ace_tool.specs.Packing.{advice_of}
use Rattle.ace_tool.specs.declared.folder.OpenErr.{OpenErr}
use Rattle.ace_tool.specs.declared.folder.OpenErr.TheVariants.{NotThere, NoName, NotAllowed, Failed}
use Rattle.ace_tool.specs.declared.gap.Gap.{Gap}
use Rattle.ace_tool.specs.declared.gap.Gap.TheVariants as gap
use Rattle.ace_tool.specs.declared.report.Report.{Report}
use Rattle.ace_tool.specs.declared.report.Report.TheVariants.{Told, Shut, Compressed, Unfinished, BadSide}
use Rattle.ace_tool.specs.declared.side.SideFault.{SideFault}
use Rattle.ace_tool.specs.declared.side.SideFault.TheVariants as fault

abbrev pub status_of_verdict : Verdict → ℕ
status_of_verdict (Accepted events) = 0
status_of_verdict (Refused index rule) = 1
status_of_verdict (Malformed line reason) = 3
status_of_verdict ReadFault = 4
status_of_verdict LimitEvents = 6
status_of_verdict LimitLines = 6
status_of_verdict NoMemory = 7

-- the same where its side file tells nothing
abbrev pub status_of_fault : SideFault → ℕ
status_of_fault (fault.Malformed line reason) = 3
status_of_fault fault.ReadFault = 4
status_of_fault fault.NoMemory = 7
status_of_fault (fault.Shut error) = 4

-- the status of one trace
abbrev pub status_of : Report → ℕ
status_of (Told verdict outstanding) = status_of_verdict verdict
status_of (Shut error) = 4
status_of (Compressed packing) = 4
status_of (Unfinished events gap) = 8
status_of (BadSide fault) = status_of_fault fault

-- the first of these that is among the statuses, or else 0
abbrev pub first_of : List ℕ → List ℕ → ℕ
first_of [] statuses = 0
first_of (status ∷ order) statuses =
    if list_any (λ s. s == status) statuses then status else first_of order statuses

-- the status of many traces: the first that occurs, and of none that of wrong words
abbrev pub status_of_all : List ℕ → ℕ
status_of_all [] = 2
status_of_all (status ∷ rest) = first_of (1 ∷ 3 ∷ 8 ∷ 6 ∷ 4 ∷ 7 ∷ []) (status ∷ rest)

abbrev pub open_text : OpenErr → List ℕ
open_text NotThere = codes "No such file or directory"
open_text NoName = codes "cannot be opened"
open_text NotAllowed = codes "Permission denied"
open_text Failed = codes "cannot be opened"

-- that a recording of so many events isn't whole, and why
abbrev pub gap_text : ℕ → Gap → List ℕ
gap_text events gap.NoSide =
    codes "unfinished: " ++ decimal events ++ codes " events, and there is no side file"
gap_text events gap.NoEnd =
    codes "unfinished: " ++ decimal events ++ codes " events, and the side file has no END"
gap_text events (gap.OtherEnd count) =
    codes "unfinished: the side file says END " ++ decimal count ++ codes ", and the trace has "
    ++ decimal events ++ codes " events"
gap_text events (gap.OtherCut count) =
    codes "unfinished: the side file says CUT " ++ decimal count ++ codes ", and the trace has "
    ++ decimal events ++ codes " events"
gap_text events (gap.Stopped count None) =
    codes "unfinished: the recorder stopped after " ++ decimal count ++ codes " events"
gap_text events (gap.Stopped count (Some last)) =
    codes "unfinished: the recorder stopped after " ++ decimal count ++ codes " events"
    ++ codes ": " ++ last.bytes
gap_text events (gap.Cut count) =
    codes "unfinished: cut after " ++ decimal count ++ codes " events on demand"
gap_text events (gap.Open outstanding) =
    codes "unfinished: " ++ decimal events ++ codes " events, and "
    ++ outstanding_words outstanding ++ codes " at the end"

-- what is said behind the name of a side file that tells nothing
abbrev pub fault_text : SideFault → List ℕ
fault_text (fault.Malformed line reason) =
    codes ":" ++ decimal line ++ codes ": malformed side line " ++ decimal line ++ codes ": S"
    ++ decimal (number_of_side_reason reason)
fault_text fault.ReadFault = codes ": read fault"
fault_text fault.NoMemory = codes ": out of memory"
fault_text (fault.Shut error) = codes ": " ++ open_text error

-- what is said of the trace of this file
abbrev pub report_text : List ℕ → Report → List ℕ
report_text name (Told verdict outstanding) = verdict_text verdict
report_text name (Shut error) = open_text error
report_text name (Compressed packing) =
    advice_of packing ++ name ++ codes " | acetool check -"
report_text name (Unfinished events gap) = gap_text events gap
report_text name (BadSide fault) = fault_text fault

-- the name of the side file of a trace
abbrev pub side_name : SideAsked → List ℕ → List ℕ
side_name (Named file) name = file
side_name _ name = name ++ codes ".side"

-- what stands before that: the name of the file, but for standard input none
abbrev pub name_text : SideAsked → List ℕ → Report → List ℕ
name_text side name (BadSide fault) = side_name side name
name_text side name report = if is_input name then [] else name ++ codes ": "

-- the name that a report speaks of
abbrev pub shown_name : List ℕ → List ℕ
shown_name name = if is_input name then codes "FILE" else name

-- the note behind the line of a trace at whose end transactions are outstanding
abbrev pub note_of : Report → List ℕ
note_of (Told verdict outstanding) = outstanding_note outstanding
note_of report = []

-- the line of a trace, or where its side file tells nothing of that, and its note
abbrev pub line_of : SideAsked → List ℕ → Report → List ℕ
line_of side name report =
    name_text side name report ++ report_text (shown_name name) report ++ codes "\n"
    ++ note_of report
