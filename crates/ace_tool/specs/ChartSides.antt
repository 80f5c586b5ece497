-- What the side file of a trace tells of the rows of its chart.
use Rattle.std.specs.Prelude.{◌≡◌, ◌⊎◌, ℕ, Bool, false, true, List, Option, None, Some, IfSome, Result, Ok, Err}
use Rattle.ace_chart.specs.Charts.{numbers_of}
use Rattle.ace_chart.specs.declared.rows.Chart.{Chart}
use Rattle.ace_side_facts.specs.Facts.{TellsOf}
use Rattle.ace_side_facts.specs.declared.facts.SideFacts.{SideFacts}
use Rattle.ace_side_facts.specs.declared.query.Query.{Query}
use Rattle.ace_tool.specs.ChartAsked.{ChartAsked}
use Rattle.ace_tool.specs.Held.{Held, may_be_missing, told_of}
use Rattle.ace_tool.specs.Sides.{IsFoundAt, place_of}
use Rattle.ace_tool.specs.declared.side.SideFault.{SideFault}
use Rattle.ace_tool.specs.declared.side.SideFault.TheVariants.{NoMemory}
use Rattle.ace_tool.specs.declared.side.SideFound.TheVariants.{Faulty}

-- This was read in a place, for this query: nothing where a side file may be missing and is, or what
-- it tells; or why it can't be read.
abbrev pub IsReadAt : Held → Bool → Query → Result (Option SideFacts) SideFault → Type 0
IsReadAt held must query (Ok None) = (must ≡ false) × (may_be_missing held ≡ true)
IsReadAt held must query (Ok (Some f)) = IfSome (told_of held) (λ bytes. TellsOf query bytes f)
IsReadAt held must query (Err fault) = IsFoundAt held must (Faulty fault)

-- The same where there may be no place.
abbrev pub IsReadIn : (List ℕ → Held) → Option (List ℕ × Bool) → Query
    → Result (Option SideFacts) SideFault → Type 0
IsReadIn holds None query read = read ≡ Ok None
IsReadIn holds (Some place) query read = IsReadAt (holds place.0) place.1 query read

-- This is what the side file of the trace that is asked for tells of the rows of its chart; want of
-- memory may take the place of it.
abbrev pub IsSideOf : (List ℕ → Held) → ChartAsked → Chart → Result (Option SideFacts) SideFault
    → Type 0
IsSideOf holds asked c read =
    ((query : Query) × (query.events.now ≡ numbers_of c)
    × IsReadIn holds (place_of asked.side asked.trace) query read)
    ⊎ (read ≡ Err NoMemory)
