-- What `cover` leaves.
use Rattle.std.specs.Prelude.{◌≡◌, ◌≢◌, ◌++◌, ◌⊎◌, ◌==◌, ◌&&◌, ⊤, ℕ, Bool, true, false, if◌then◌else◌, List, [], ◌∷◌, Option, IfSome, codes, decimal}
use Rattle.std.specs.Io.KnownBytes.{Appends}
use Rattle.ace_cover.specs.Json.{cover_json}
use Rattle.ace_cover.specs.Tables.{table_text}
use Rattle.ace_cover.specs.Tallies.{Tally, both, is_below, no_tally}
use Rattle.ace_cover.specs.declared.listing.Listing.{Listing}
use Rattle.ace_paths.specs.Lists.{paths_of}
use Rattle.ace_points.specs.Points.{all_points}
use Rattle.ace_io.specs.Faults.{Rose}
use Rattle.ace_tool.specs.Checked.{accepted_of}
use Rattle.ace_tool.specs.Covered.{AreCounted, Covered, IsCounted, names_of, note_by, notes_of, statuses_of, tally_of, with_accepted}
use Rattle.ace_tool.specs.Held.{Held, told_of}
use Rattle.ace_tool.specs.ListTexts.{IsTextOfList, KeepsInput}
use Rattle.ace_tool.specs.Reports.{open_text, status_of_all}
use Rattle.ace_tool.specs.declared.cover_counts.CountsFault.{CountsFault}
use Rattle.ace_tool.specs.declared.cover_counts.CountsFault.TheVariants.{Shut, ReadFault, Wrong, NoMemory}
use Rattle.ace_tool.specs.declared.cover_traces.Stop.{Stop}
use Rattle.ace_tool.specs.declared.cover_traces.Stop.TheVariants as stop
use Rattle.ace_tool.specs.declared.report.Report.{Report}

-- What `cover` is asked to do: the names of the files, and the one that lists more; that they are
-- counts which are to be added; which points are to be named, or that JSON is to be told; and how
-- many of a hundred points are to be hit.
pub record CoverAsked : Type 0 where
  pub names : List (List ℕ)
  pub list : Option (List ℕ)
  pub merge : Bool
  pub listing : Listing
  pub json : Bool
  pub least : ℕ

-- what is told of what was counted
abbrev pub cover_text : CoverAsked → Tally → List ℕ
cover_text asked tally = if asked.json then cover_json tally else table_text asked.listing tally

-- The status: that of all traces, and 1 where it is 0 and too few points were hit.
abbrev pub status_with : CoverAsked → Tally → ℕ → ℕ
status_with asked tally status = if status == 0 && is_below asked.least tally then 1 else status

-- These traces were counted: those that aren't accepted were noted.
pub record CountsTraces (holds : List ℕ → Held) (names : List (List ℕ))
    (input notes notes' : Option (List ℕ)) (tally : Tally) (status : ℕ) : Type 0 where
  pub covered : List Covered
  pub left : Option (List ℕ)
  pub all : names_of covered ≡ names
  pub right : AreCounted holds input covered left
  pub noted : Appends notes notes' (notes_of covered)
  pub total : tally ≡ tally_of covered
  pub seen : status ≡ status_of_all (statuses_of covered)

-- The trace of this name was counted where it is accepted, and noted where it isn't.
pub record AddsTrace (holds : List ℕ → Held) (name : List ℕ)
    (input left notes notes' : Option (List ℕ)) (before after : Tally) (report : Report)
    : Type 0 where
  pub hits : List ℕ
  pub right : IsCounted holds name input report hits left
  pub total : after ≡ with_accepted before (accepted_of report) hits
  pub noted : Appends notes notes' (note_by name report (accepted_of report))

-- It ended before all was counted: the notes failed, or there was no memory and they have some.
abbrev pub Stops : Option (List ℕ) → Option (List ℕ) → ℕ → ℕ → Stop → Type 0
Stops notes notes' before now stop.Failed = Rose before now
Stops notes notes' before now stop.NoMemory =
    (now ≡ before) × ((told : List ℕ) × Appends notes notes' told)

-- The file tells these counts, and nothing else.
abbrev pub IsTally : (List ℕ → Held) → List ℕ → Tally → Type 0
IsTally holds name tally = IfSome (told_of (holds name)) (λ bytes. bytes ≡ cover_json tally)

-- counts, by the name of the file that tells them
pub record Part : Type 0 where
  pub name : List ℕ
  pub tally : Tally

-- The files tell these counts, of which the newest stand first.
abbrev pub AreTallies : (List ℕ → Held) → List Part → Type 0
AreTallies holds [] = ⊤
AreTallies holds (part ∷ past) = AreTallies holds past × IsTally holds part.name part.tally

-- their names, in their order
abbrev pub parts_names : List Part → List (List ℕ)
parts_names [] = []
parts_names (part ∷ past) = parts_names past ++ part.name ∷ []

-- their sums
abbrev pub sum_of_parts : List Part → Tally
sum_of_parts [] = no_tally all_points
sum_of_parts (part ∷ past) = both (sum_of_parts past) part.tally

-- These are the sums of the counts that these files tell.
pub record AddsCounts (holds : List ℕ → Held) (names : List (List ℕ)) (tally : Tally)
    : Type 0 where
  pub parts : List Part
  pub all : parts_names parts ≡ names
  pub told : AreTallies holds parts
  pub total : tally ≡ sum_of_parts parts

-- the status of counts that were added: 2, as of no trace, where there are none
abbrev pub status_of_counts : List (List ℕ) → ℕ
status_of_counts [] = 2
status_of_counts (name ∷ names) = 0

-- What the files of these names tell was counted: traces, or counts that were added.
abbrev pub Counts : Bool → (List ℕ → Held) → List (List ℕ) → Option (List ℕ)
    → Option (List ℕ) → Option (List ℕ) → Tally → ℕ → Type 0
Counts false holds names input notes notes' tally status =
    CountsTraces holds names input notes notes' tally status
Counts true holds names input notes notes' tally status =
    AddsCounts holds names tally × (status ≡ status_of_counts names) × Appends notes notes' []

-- why the counts of the file of this name can't be added
abbrev pub fault_line : List ℕ → CountsFault → List ℕ
fault_line name (Shut error) = name ++ (codes ": " ++ (open_text error ++ codes "\n"))
fault_line name ReadFault = name ++ (codes ": " ++ (codes "read fault" ++ codes "\n"))
fault_line name (Wrong line) =
    name ++ (codes ":" ++ (decimal line ++ (codes ": not as `acetool cover` writes it"
    ++ codes "\n")))
fault_line name NoMemory = name ++ (codes ": " ++ (codes "out of memory" ++ codes "\n"))

abbrev pub status_of_fault : CountsFault → ℕ
status_of_fault (Shut error) = 4
status_of_fault ReadFault = 4
status_of_fault (Wrong line) = 3
status_of_fault NoMemory = 7

-- the status where nothing could be told: of a list or counts that could not be had or are
-- malformed, or without memory
abbrev pub IsFault : ℕ → Type 0
IsFault status = (status ≡ 3) ⊎ (status ≡ 4) ⊎ (status ≡ 7)

-- It ended with this status before all was counted: that was noted, or the notes failed.
pub record EndsEarly (notes notes' : Option (List ℕ)) (before now status : ℕ) : Type 0 where
  pub noted : status ≢ 5 → IsFault status × ((text : List ℕ) × Appends notes notes' text)
  pub failed : status ≡ 5 → Rose before now

-- Of what was counted the text that is asked for was told, and the status is right.
pub record IsTold (asked : CoverAsked) (tally : Tally) (seen : ℕ) (out out' : Option (List ℕ))
    (status : ℕ) : Type 0 where
  pub told : Appends out out' (cover_text asked tally)
  pub total : status ≡ status_with asked tally seen

-- Where no output failed: that was told, and nothing was noted; or there was no memory for it.
abbrev pub TellsTally : CoverAsked → Tally → ℕ → Option (List ℕ) → Option (List ℕ)
    → Option (List ℕ) → Option (List ℕ) → ℕ → Type 0
TellsTally asked tally seen out out' notes notes' status =
    (IsTold asked tally seen out out' status × Appends notes notes' [])
    ⊎ (IsFault status × Appends out out' [] × ((text : List ℕ) × Appends notes notes' text))

-- What the files of these names tell was counted, and that was told.
pub record IsDone (holds : List ℕ → Held) (asked : CoverAsked) (names : List (List ℕ))
    (input out out' notes notes' : Option (List ℕ)) (status : ℕ) : Type 0 where
  pub tally : Tally
  pub seen : ℕ
  pub counted : Counts asked.merge holds names input notes notes' tally seen
  pub told : IsTold asked tally seen out out' status

-- Where no output failed: it was done; or it could not be, and that was noted, and nothing told.
abbrev pub CoversNames : (List ℕ → Held) → CoverAsked → List (List ℕ) → Option (List ℕ)
    → Option (List ℕ) → Option (List ℕ) → Option (List ℕ) → Option (List ℕ) → ℕ → Type 0
CoversNames holds asked names input out out' notes notes' status =
    IsDone holds asked names input out out' notes notes' status
    ⊎ (IsFault status × Appends out out' [] × ((text : List ℕ) × Appends notes notes' text))

-- The same of the files that are named, and then those that the text of the list lists.
abbrev pub DoesCover : (List ℕ → Held) → CoverAsked → Option (List ℕ) → Option (List ℕ)
    → Option (List ℕ) → Option (List ℕ) → Option (List ℕ) → ℕ → Type 0
DoesCover holds asked input out out' notes notes' status =
    ((list : List ℕ) × (left : Option (List ℕ)) × IsTextOfList holds asked.list input list
    × KeepsInput asked.list input left
    × CoversNames holds asked (asked.names ++ paths_of list) left out out' notes notes' status)
    ⊎ (IsFault status × Appends out out' [] × ((text : List ℕ) × Appends notes notes' text))
