-- What `explain` tells of what was found of a trace.
use Rattle.std.specs.Prelude.{◌≡◌, ◌⊎◌, ◌++◌, ◌-◌, ◌^◌, ⊤, ℕ, Bool, true, false, if◌then◌else◌, List, Option, None, Some, IfSome, codes}
use Rattle.std.specs.Io.KnownBytes.{Appends}
use Rattle.ace_batch.specs.declared.outcome.Outcome.TheVariants.{Unreadable}
use Rattle.ace_convert.specs.Output.{AppendsPart}
use Rattle.ace_explain_json.specs.Objects.{explanation_json, no_memory_json, plain_json}
use Rattle.ace_explanation.specs.Explanations.{HasAnyLine, verdict_of}
use Rattle.ace_explanation.specs.Told.{HasTold, HasToldPart}
use Rattle.ace_grammar.specs.Reading.{most_counted}
use Rattle.ace_side_facts.specs.Facts.{TellsNothing, fault_in}
use Rattle.ace_side_facts.specs.declared.facts.SideFacts.{SideFacts}
use Rattle.ace_verdict.specs.declared.limits.Limits.{Limits}
use Rattle.ace_verdict.specs.declared.verdict.Verdict.{Verdict}
use Rattle.ace_verdict.specs.declared.verdict.Verdict.TheVariants.{ReadFault}
use Rattle.ace_tool.specs.Asked.{is_input}
use Rattle.ace_tool.specs.Examined.{IsFoundFile, IsFoundWithin}
use Rattle.ace_tool.specs.Packing.{advice_of}
use Rattle.ace_tool.specs.Reports.{open_text, shown_name, status_of_verdict}
use Rattle.ace_tool.specs.declared.explain_words.Form.{Form}
use Rattle.ace_tool.specs.declared.explain_words.Form.TheVariants.{Whole, Short, Json}
use Rattle.ace_tool.specs.declared.finding.Finding.{Finding}
use Rattle.ace_tool.specs.declared.finding.Finding.TheVariants.{Explained, Shut, Compressed}
use Rattle.ace_tool.specs.declared.folder.OpenErr.{OpenErr}
use Rattle.ace_tool.specs.declared.packing.Packing.{Packing}

-- a trace may have as much as can be counted
abbrev pub no_limits : Limits
no_limits = record { events = most_counted; lines = 2 ^ 64 - 1 }

-- Of standard input what was left is explained, within the limits; of a file what it holds, and the
-- input stays.
abbrev pub IsFound : Limits → Bool → Option (List ℕ) → Option (List ℕ) → Finding
    → Option (List ℕ) → Type 0
IsFound limits true told input finding left =
    IfSome input (λ bytes. IsFoundWithin limits bytes finding)
IsFound limits false told input finding left = IsFoundFile limits told finding × (left ≡ input)

-- it tells that reading failed
abbrev pub IsReadFault : Finding → Type 0
IsReadFault (Explained x) = verdict_of x ≡ ReadFault
IsReadFault finding = ⊥

-- where an event is told of, it has a line
abbrev pub MayBeTold : Finding → Type 0
MayBeTold (Explained x) = HasAnyLine x
MayBeTold finding = ⊤

-- the name by which a trace is told of
abbrev pub told_name : List ℕ → List ℕ
told_name name = if is_input name then codes "<stdin>" else name

-- what is told of a file that can't be opened, and of one that is compressed
abbrev pub shut_line : List ℕ → OpenErr → List ℕ
shut_line name error = told_name name ++ (codes ": " ++ (open_text error ++ codes "\n"))

abbrev pub packed_line : List ℕ → Packing → List ℕ
packed_line name packing =
    told_name name
    ++ (codes ": " ++ (advice_of packing ++ (shown_name name ++ codes " | acetool explain -\n")))

-- a side file tells nothing, and nothing is wrong with it
abbrev pub HasNoSide : SideFacts → Type 0
HasNoSide f = TellsNothing f × (fault_in f ≡ None)

-- What was found was told of the trace of this name, with this of its side file; of a refused one
-- the first line alone where that was asked for; and the status is that of what was told.
abbrev pub TellsWith : SideFacts → List ℕ → Bool → Finding → Option (List ℕ) → Option (List ℕ)
    → ℕ → Type 0
TellsWith f name short (Explained x) out out' status =
    (v : Verdict) × HasTold f (told_name name) short x out out' v × (status ≡ status_of_verdict v)
TellsWith f name short (Shut error) out out' status =
    Appends out out' (shut_line name error) × (status ≡ 4)
TellsWith f name short (Compressed packing) out out' status =
    Appends out out' (packed_line name packing) × (status ≡ 4)

-- The output failed while it was told.
abbrev pub TellsPartWith : SideFacts → List ℕ → Bool → Finding → Option (List ℕ)
    → Option (List ℕ) → Type 0
TellsPartWith f name short (Explained x) out out' = HasToldPart f (told_name name) short x out out'
TellsPartWith f name short (Shut error) out out' = AppendsPart out out' (shut_line name error)
TellsPartWith f name short (Compressed packing) out out' =
    AppendsPart out out' (packed_line name packing)

-- the same without a side file
abbrev pub TellsFinding : List ℕ → Bool → Finding → Option (List ℕ) → Option (List ℕ) → ℕ
    → Type 0
TellsFinding name short finding out out' status =
    (f : SideFacts) × HasNoSide f × TellsWith f name short finding out out' status

abbrev pub TellsPart : List ℕ → Bool → Finding → Option (List ℕ) → Option (List ℕ) → Type 0
TellsPart name short finding out out' =
    (f : SideFacts) × HasNoSide f × TellsPartWith f name short finding out out'

-- All that was found, as a JSON object: that of its explanation, or that it can't be read, and why.
abbrev pub packed_words : List ℕ → Packing → List ℕ
packed_words name packing =
    advice_of packing ++ (shown_name name ++ codes " | acetool explain -")

abbrev pub finding_json : SideFacts → List ℕ → Finding → List ℕ
finding_json f name (Explained x) = explanation_json (told_name name) f x
finding_json f name (Shut error) =
    plain_json (told_name name) Unreadable (Some (open_text error)) None None
finding_json f name (Compressed packing) =
    plain_json (told_name name) Unreadable (Some (packed_words name packing)) None None

abbrev pub status_of_finding : Finding → ℕ
status_of_finding (Explained x) = status_of_verdict (verdict_of x)
status_of_finding finding = 4

-- A JSON object was told, or that there was no memory for it.
abbrev pub TellsJson : List ℕ → Option (List ℕ) → Option (List ℕ) → ℕ → ℕ → Type 0
TellsJson text out out' due status =
    (Appends out out' text × (status ≡ due))
    ⊎ (Appends out out' no_memory_json × (status ≡ 7))

-- The output failed while it was told.
abbrev pub TellsJsonPart : List ℕ → Option (List ℕ) → Option (List ℕ) → Type 0
TellsJsonPart text out out' =
    AppendsPart out out' text ⊎ AppendsPart out out' no_memory_json

-- What was found was told in this form, with this of its side file.
abbrev pub TellsAs : Form → SideFacts → List ℕ → Finding → Option (List ℕ) → Option (List ℕ) → ℕ
    → Type 0
TellsAs Whole f name finding out out' status = TellsWith f name false finding out out' status
TellsAs Short f name finding out out' status = TellsWith f name true finding out out' status
TellsAs Json f name finding out out' status =
    TellsJson (finding_json f name finding) out out' (status_of_finding finding) status

abbrev pub TellsPartAs : Form → SideFacts → List ℕ → Finding → Option (List ℕ)
    → Option (List ℕ) → Type 0
TellsPartAs Whole f name finding out out' = TellsPartWith f name false finding out out'
TellsPartAs Short f name finding out out' = TellsPartWith f name true finding out out'
TellsPartAs Json f name finding out out' = TellsJsonPart (finding_json f name finding) out out'
