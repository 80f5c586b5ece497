-- What a side file tells of the rows of a chart.
use Rattle.std.proofs.Common.{◌≡◌, ℕ, List, Option, None, Some, Result, Err, IfSome, inl, inr, subst, sym}
use Rattle.ace_chart.specs.Charts.{numbers_of}
use Rattle.ace_chart.specs.declared.rows.Chart.{Chart}
use Rattle.ace_side_facts.specs.declared.facts.SideFacts.{SideFacts}
use Rattle.ace_side_facts.specs.declared.query.Query.{Query}
use Rattle.ace_tool.specs.ChartAsked.{ChartAsked}
use Rattle.ace_tool.specs.ChartSides.{IsReadIn, IsSideOf}
use Rattle.ace_tool.specs.Held.{Held}
use Rattle.ace_tool.specs.ListTexts.{IsWhole}
use Rattle.ace_tool.specs.Sides.{place_of}
use Rattle.ace_tool.specs.declared.side.SideFault.{SideFault}
use Rattle.ace_tool.specs.declared.side.SideFault.TheVariants.{NoMemory}

pub side_read : (holds : List ℕ → Held) (asked : ChartAsked) (c : Chart) (query : Query) (read : Result (Option SideFacts) SideFault)
    → query.events.now ≡ numbers_of c → IsReadIn holds (place_of asked.side asked.trace) query read → IsSideOf holds asked c read
side_read holds asked c query read events is = inl (query, events, is)

pub no_memory : (holds : List ℕ → Held) (asked : ChartAsked) (c : Chart) (read : Result (Option SideFacts) SideFault) → read ≡ Err NoMemory
    → IsSideOf holds asked c read
no_memory holds asked c read is = inr is

pub ruleset sides = (side_read, no_memory)

-- what holds of all bytes that a source has left
pub of_whole : (P : List ℕ → Type 0) (left : Option (List ℕ)) (bytes : List ℕ) → IsWhole left bytes → P bytes → IfSome left P
of_whole P None bytes is p = tt
of_whole P (Some told) bytes is p = subst P (sym is) p
