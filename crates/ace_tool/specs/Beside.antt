-- What the side file of a refused trace tells, and what `explain` tells of a trace with it.
use Rattle.std.specs.Prelude.{◌≡◌, ◌⊎◌, ◌++◌, ℕ, Bool, true, false, List, [], ◌∷◌, Option, None, Some, IfSome, Result, Ok, Err, codes, option_to_list}
use Rattle.std.specs.Io.KnownBytes.{Appends}
use Rattle.ace_batch.specs.declared.outcome.Outcome.TheVariants.{Unfinished as unfinished}
use Rattle.ace_convert.specs.Output.{AppendsPart}
use Rattle.ace_explain_json.specs.Objects.{no_memory_json, plain_json}
use Rattle.ace_explanation.specs.Refusals.{shown_events}
use Rattle.ace_explanation.specs.declared.explanation.Explanation.TheVariants.{Refused}
use Rattle.ace_explanation.specs.declared.refusal.Refusal.{Refusal}
use Rattle.ace_side_facts.specs.Facts.{TellsNothing, TellsOf, fault_in}
use Rattle.ace_side_facts.specs.declared.facts.SideFacts.{SideFacts}
use Rattle.ace_side_facts.specs.declared.query.Query.{Query}
use Rattle.ace_tool.specs.Asked.{SideAsked, is_input}
use Rattle.ace_tool.specs.Checked.{IsJudged, accepted_of}
use Rattle.ace_tool.specs.Examined.{report_of}
use Rattle.ace_tool.specs.ExplainAsked.{ExplainAsked}
use Rattle.ace_tool.specs.Explaining.{HasNoSide, IsFound, TellsAs, TellsJson, TellsJsonPart, TellsPartAs, told_name}
use Rattle.ace_tool.specs.Held.{Held, may_be_missing, told_of}
use Rattle.ace_tool.specs.Reports.{fault_text, gap_text, side_name, status_of_fault}
use Rattle.ace_tool.specs.Results.{outcome_of_fault}
use Rattle.ace_tool.specs.Sides.{IsFoundAt, place_of}
use Rattle.ace_tool.specs.declared.explain_words.Form.{Form}
use Rattle.ace_tool.specs.declared.explain_words.Form.TheVariants.{Whole, Short, Json}
use Rattle.ace_tool.specs.declared.finding.Finding.{Finding}
use Rattle.ace_tool.specs.declared.finding.Finding.TheVariants.{Explained}
use Rattle.ace_tool.specs.declared.gap.Gap.{Gap}
use Rattle.ace_tool.specs.declared.report.Report.{Report}
use Rattle.ace_tool.specs.declared.report.Report.TheVariants.{Unfinished, BadSide}
use Rattle.ace_tool.specs.declared.side.SideFault.{SideFault}
use Rattle.ace_tool.specs.declared.side.SideFound.TheVariants.{Faulty}

-- This is asked of the side file of a refused trace: the times of the events that are shown, what is
-- remarked at the event, and the real address of its line.
pub record AsksOf (r : Refusal) (query : Query) : Type 0 where
  pub events : query.events.now ≡ shown_events r
  pub notes : query.notes.now ≡ r.index ∷ []
  pub lines : query.lines.now ≡ option_to_list r.led.line

-- This was read in a place, for this query: nothing where a side file may be missing and is, or what
-- it tells; or why it can't be read.
abbrev pub IsReadAt : Held → Bool → Query → Result (Option SideFacts) SideFault → Type 0
IsReadAt held must query (Ok None) = (must ≡ false) × (may_be_missing held ≡ true)
IsReadAt held must query (Ok (Some f)) = IfSome (told_of held) (λ bytes. TellsOf query bytes f)
IsReadAt held must query (Err fault) = IsFoundAt held must (Faulty fault)

-- What was read in the file of this name tells this.
abbrev pub IsToldOf : List ℕ → Result (Option SideFacts) SideFault → SideFacts → Type 0
IsToldOf file (Ok None) f = HasNoSide f
IsToldOf file (Ok (Some told)) f = f ≡ told
IsToldOf file (Err fault) f = TellsNothing f × (fault_in f ≡ Some (file ++ fault_text fault))

-- In this place a side file tells this of the refused trace: nothing where it may be missing and is;
-- what it holds; or why it can't be read.
abbrev pub TellsAt : Held → List ℕ → Bool → Refusal → SideFacts → Type 0
TellsAt held file must r f =
    ((must ≡ false) × (may_be_missing held ≡ true) × HasNoSide f)
    ⊎ ((query : Query) × AsksOf r query × IfSome (told_of held) (λ bytes. TellsOf query bytes f))
    ⊎ ((fault : SideFault) × IsFoundAt held must (Faulty fault) × TellsNothing f
    × (fault_in f ≡ Some (file ++ fault_text fault)))

-- The same where there may be no place.
abbrev pub TellsIn : (List ℕ → Held) → Option (List ℕ × Bool) → Refusal → SideFacts → Type 0
TellsIn holds None r f = HasNoSide f
TellsIn holds (Some place) r f = TellsAt (holds place.0) place.0 place.1 r f

-- The same of what was found of a trace: only of a refused one a side file tells more.
abbrev pub TellsOfFinding : (List ℕ → Held) → ExplainAsked → Finding → SideFacts → Type 0
TellsOfFinding holds asked (Explained (Refused r)) f =
    TellsIn holds (place_of asked.options.side asked.trace) r f
TellsOfFinding holds asked finding f = HasNoSide f

-- This is told beside what was found, in this form: nothing beside a first line alone.
abbrev pub IsBeside : (List ℕ → Held) → ExplainAsked → Form → Finding → SideFacts → Type 0
IsBeside holds asked Whole finding f = TellsOfFinding holds asked finding f
IsBeside holds asked Short finding f = HasNoSide f
IsBeside holds asked Json finding f = TellsOfFinding holds asked finding f

-- What is told of a trace whose recording isn't whole, and of one whose side file can't be read.
abbrev pub gap_line : List ℕ → ℕ → Gap → List ℕ
gap_line name events gap =
    told_name name ++ codes ": " ++ gap_text events gap ++ codes "\n"

abbrev pub gap_json : List ℕ → ℕ → Gap → List ℕ
gap_json name events gap =
    plain_json (told_name name) unfinished (Some (gap_text events gap)) (Some events) None

abbrev pub fault_words : SideAsked → List ℕ → SideFault → List ℕ
fault_words side name fault = side_name side name ++ fault_text fault

abbrev pub fault_json : SideAsked → List ℕ → SideFault → List ℕ
fault_json side name fault =
    plain_json (told_name name) (outcome_of_fault fault) (Some (fault_words side name fault)) None
    None

-- They were told in this form.
abbrev pub TellsGap : Form → List ℕ → ℕ → Gap → Option (List ℕ) → Option (List ℕ) → ℕ → Type 0
TellsGap Json name events gap out out' status =
    TellsJson (gap_json name events gap) out out' 8 status
TellsGap form name events gap out out' status =
    Appends out out' (gap_line name events gap) × (status ≡ 8)

abbrev pub TellsFault : Form → SideAsked → List ℕ → SideFault → Option (List ℕ)
    → Option (List ℕ) → ℕ → Type 0
TellsFault Json side name fault out out' status =
    TellsJson (fault_json side name fault) out out' (status_of_fault fault) status
TellsFault form side name fault out out' status =
    Appends out out' (fault_words side name fault ++ codes "\n") × (status ≡ status_of_fault fault)

-- The output failed while they were.
abbrev pub TellsGapPart : Form → List ℕ → ℕ → Gap → Option (List ℕ) → Option (List ℕ) → Type 0
TellsGapPart Json name events gap out out' = TellsJsonPart (gap_json name events gap) out out'
TellsGapPart form name events gap out out' = AppendsPart out out' (gap_line name events gap)

abbrev pub TellsFaultPart : Form → SideAsked → List ℕ → SideFault → Option (List ℕ)
    → Option (List ℕ) → Type 0
TellsFaultPart Json side name fault out out' = TellsJsonPart (fault_json side name fault) out out'
TellsFaultPart form side name fault out out' =
    AppendsPart out out' (fault_words side name fault ++ codes "\n")

-- That there was no memory was told in this form.
abbrev pub no_memory_text : Form → List ℕ → List ℕ
no_memory_text Json name = no_memory_json
no_memory_text form name = told_name name ++ codes ": out of memory\n"

-- What was found was told, with what stands beside it.
abbrev pub TellsFound : (List ℕ → Held) → ExplainAsked → Finding → Option (List ℕ)
    → Option (List ℕ) → ℕ → Type 0
TellsFound holds asked finding out out' status =
    ((f : SideFacts) × IsBeside holds asked asked.form finding f
    × TellsAs asked.form f asked.trace finding out out' status)
    ⊎ (Appends out out' (no_memory_text asked.form asked.trace) × (status ≡ 7))

abbrev pub TellsFoundPart : (List ℕ → Held) → ExplainAsked → Finding → Option (List ℕ)
    → Option (List ℕ) → Type 0
TellsFoundPart holds asked finding out out' =
    ((f : SideFacts) × IsBeside holds asked asked.form finding f
    × TellsPartAs asked.form f asked.trace finding out out')
    ⊎ AppendsPart out out' (no_memory_text asked.form asked.trace)

-- The trace was told of by its report: that its recording isn't whole, that its side file can't be
-- read, or what was found.
abbrev pub TellsReport : (List ℕ → Held) → ExplainAsked → Finding → Report → Option (List ℕ)
    → Option (List ℕ) → ℕ → Type 0
TellsReport holds asked finding (Unfinished events gap) out out' status =
    TellsGap asked.form asked.trace events gap out out' status
TellsReport holds asked finding (BadSide fault) out out' status =
    TellsFault asked.form asked.options.side asked.trace fault out out' status
TellsReport holds asked finding report out out' status =
    TellsFound holds asked finding out out' status

abbrev pub TellsReportPart : (List ℕ → Held) → ExplainAsked → Finding → Report
    → Option (List ℕ) → Option (List ℕ) → Type 0
TellsReportPart holds asked finding (Unfinished events gap) out out' =
    TellsGapPart asked.form asked.trace events gap out out'
TellsReportPart holds asked finding (BadSide fault) out out' =
    TellsFaultPart asked.form asked.options.side asked.trace fault out out'
TellsReportPart holds asked finding report out out' = TellsFoundPart holds asked finding out out'

-- The trace that was asked for was explained, as `check` judges it.
pub record Explains (holds : List ℕ → Held) (asked : ExplainAsked)
    (input left out out' : Option (List ℕ)) (status : ℕ) : Type 0 where
  pub finding : Finding
  pub report : Report
  pub right : IsFound asked.options.limits (is_input asked.trace) (told_of (holds asked.trace)) input
      finding left
  pub judged : IsJudged asked.options holds asked.trace (accepted_of (report_of finding))
      (report_of finding) report
  pub told : TellsReport holds asked finding report out out' status

-- The output failed while it was.
pub record ExplainsPart (holds : List ℕ → Held) (asked : ExplainAsked)
    (input left out out' : Option (List ℕ)) : Type 0 where
  pub finding : Finding
  pub report : Report
  pub right : IsFound asked.options.limits (is_input asked.trace) (told_of (holds asked.trace)) input
      finding left
  pub judged : IsJudged asked.options holds asked.trace (accepted_of (report_of finding))
      (report_of finding) report
  pub told : TellsReportPart holds asked finding report out out'
