-- What is gathered of some lines.
use Rattle.std.specs.Prelude.{List}
use Rattle.std.specs.List.Sorted.{IsPermutation}
use Rattle.ace_side.specs.declared.line.SideLine.{SideLine}
use Rattle.ace_side_facts.specs.Gathering.{LabelsStand, TimesStand}
use Rattle.ace_side_facts.specs.declared.gathering.Gathering.{Gathering}
use Rattle.ace_side_facts.specs.declared.query.Query.{Query}

-- It is what is gathered of these lines, the newest first, for this query.
pub record Stands (query : Query) (past : List SideLine) (g : Gathering) : Type 0 where
  pub labels : LabelsStand query past g.labels
  pub times : TimesStand past g.times
  pub same : IsPermutation query.events.now g.times.events.items
