-- What is told of one of many traces.
use Rattle.std.specs.Prelude.{◌≡◌, ◌+◌, ◌++◌, ℕ, false, List, [], Option, None, Some, codes, decimal, string_bytes}
use Rattle.ace_batch.specs.declared.entry.Entry.{Entry}
use Rattle.ace_batch.specs.declared.outcome.Outcome.{Outcome}
use Rattle.ace_batch.specs.declared.outcome.Outcome.TheVariants as outcome
use Rattle.ace_explain_json.specs.Outcomes.{outcome_of_verdict}
use Rattle.ace_explanation.specs.Refusals.{wrong_sentence}
use Rattle.ace_explanation.specs.Texts.{explanation_text}
use Rattle.ace_explanation.specs.declared.explanation.Explanation.TheVariants.{Refused, Malformed}
use Rattle.ace_grammar.specs.Reasons.{number_of_reason}
use Rattle.ace_malformed.specs.Sentences.{wrong_sentence as malformed_sentence}
use Rattle.ace_malformed.specs.Texts.{bad_line_text}
use Rattle.ace_pages.specs.Pages.{page_name}
use Rattle.ace_side.specs.Reasons.{number_of_reason as number_of_side_reason}
use Rattle.ace_side_facts.specs.declared.facts.SideFacts.{SideFacts}
use Rattle.ace_tool.specs.Asked.{Options}
use Rattle.ace_tool.specs.Examined.{IsExamined}
use Rattle.ace_tool.specs.Explaining.{HasNoSide}
use Rattle.ace_tool.specs.Held.{Held}
use Rattle.ace_tool.specs.Reports.{report_text}
use Rattle.ace_tool.specs.declared.finding.Finding.{Finding}
use Rattle.ace_tool.specs.declared.finding.Finding.TheVariants as finding
use Rattle.ace_tool.specs.declared.report.Report.{Report}
use Rattle.ace_tool.specs.declared.report.Report.TheVariants.{Told, Shut, Compressed, Unfinished, BadSide}
use Rattle.ace_tool.specs.declared.side.SideFault.{SideFault}
use Rattle.ace_tool.specs.declared.side.SideFault.TheVariants as fault
use Rattle.ace_verdict.specs.declared.verdict.Verdict.TheVariants as verdict

-- how a check came out
abbrev pub outcome_of_fault : SideFault → Outcome
outcome_of_fault (fault.Malformed line reason) = outcome.Malformed
outcome_of_fault fault.ReadFault = outcome.Unreadable
outcome_of_fault fault.NoMemory = outcome.NoMemory
outcome_of_fault (fault.Shut error) = outcome.Unreadable

abbrev pub outcome_of : Report → Outcome
outcome_of (Told v outstanding) = outcome_of_verdict v
outcome_of (Shut error) = outcome.Unreadable
outcome_of (Compressed packing) = outcome.Unreadable
outcome_of (Unfinished events gap) = outcome.Unfinished
outcome_of (BadSide f) = outcome_of_fault f

-- how many events were judged
abbrev pub events_of : Report → ℕ
events_of (Told (verdict.Accepted events) outstanding) = events
events_of (Told (verdict.Refused index rule) outstanding) = index
events_of (Unfinished events gap) = events
events_of report = 0

-- how many transactions are outstanding at the end of an accepted trace
abbrev pub outstanding_of : Report → Option ℕ
outstanding_of (Told (verdict.Accepted events) outstanding) = Some outstanding
outstanding_of report = None

-- the line that is refused or malformed; the lines of the header are 1 and 2
abbrev pub line_of_result : Finding → Option ℕ
line_of_result (finding.Explained (Refused r)) = Some (r.index + 2)
line_of_result (finding.Explained (Malformed bad)) = Some bad.number
line_of_result found = None

-- what traces that failed alike have in common
abbrev pub signature_of_report : Report → List ℕ
signature_of_report (Told (verdict.Malformed line reason) outstanding) =
    codes "F" ++ decimal (number_of_reason reason)
signature_of_report (Told (verdict.Accepted events) outstanding) = []
signature_of_report (Told v outstanding) = report_text [] (Told v outstanding)
signature_of_report (Shut error) = codes "cannot be opened"
signature_of_report (Compressed packing) = codes "compressed"
signature_of_report (Unfinished events gap) = codes "unfinished"
signature_of_report (BadSide (fault.Malformed line reason)) =
    codes "S" ++ decimal (number_of_side_reason reason)
signature_of_report (BadSide f) = codes "side file"

abbrev pub signature_of : Finding → Report → List ℕ
signature_of (finding.Explained (Refused r)) report = page_name r.rule (Some r.letter)
signature_of found report = signature_of_report report

-- what is told of a side file
unfoldable pub side_line_words : List ℕ
side_line_words = codes "malformed side line "

unfoldable pub side_line : ℕ → List ℕ
side_line line = side_line_words ++ decimal line

unfoldable pub side_words : List ℕ
side_words = codes "the side file"

-- what is wrong
abbrev pub message_of_report : List ℕ → Report → List ℕ
message_of_report name (BadSide (fault.Malformed line reason)) = side_line line
message_of_report name (BadSide f) = side_words ++ report_text name (BadSide f)
message_of_report name report = report_text name report

abbrev pub message_of : List ℕ → Finding → Report → List ℕ
message_of name (finding.Explained (Refused r)) report = wrong_sentence r.rule r.letter
message_of name (finding.Explained (Malformed bad)) report = malformed_sentence bad
message_of name found report = message_of_report name report

-- All that is told of it: of a trace that is refused or malformed what `explain` tells without a
-- side file, if there is memory, and of another its message.
abbrev pub IsText : List ℕ → Finding → Report → List ℕ → Type 0
IsText name (finding.Explained (Refused r)) report text =
    (f : SideFacts) × HasNoSide f × (text ≡ explanation_text f name false (Refused r))
IsText name (finding.Explained (Malformed bad)) report text = text ≡ bad_line_text name false bad
IsText name found report text = text ≡ message_of name found report

-- The entry of a trace, by its name and what is told of it.
pub record IsEntryOf (name : List ℕ) (found : Finding) (report : Report) (e : Entry) : Type 0 where
  pub path : string_bytes e.path ≡ name
  pub outcome : e.outcome ≡ outcome_of report
  pub events : e.events ≡ events_of report
  pub outstanding : e.outstanding ≡ outstanding_of report
  pub line : e.line ≡ line_of_result found
  pub signature : e.signature.items ≡ signature_of found report
  pub message : e.message.items ≡ message_of name found report
  pub text : IsText name found report e.text.items

-- The entry is that of the trace of this name.
pub record IsResult (options : Options) (holds : List ℕ → Held)
    (name : List ℕ) (e : Entry) : Type 0 where
  pub found : Finding
  pub report : Report
  pub right : IsExamined options holds name found report
  pub entry : IsEntryOf name found report e
