-- What a check of traces leaves.
use Rattle.std.specs.Prelude.{◌≡◌, ℕ, List, Option, take}
use Rattle.std.specs.Io.KnownBytes.{Appends}
use Rattle.ace_convert.specs.Output.{AppendsPart}
use Rattle.ace_tool.specs.Asked.{CheckAsked}
use Rattle.ace_tool.specs.Checked.{AreRight, Checked, lines_of, names_of, statuses_of}
use Rattle.ace_tool.specs.Held.{Held}
use Rattle.ace_tool.specs.Reports.{status_of_all}

-- The trace of each name was checked: their lines were appended, and the status is that of all.
pub record ChecksAll (holds : List ℕ → Held) (check : CheckAsked)
    (input left out out' : Option (List ℕ)) (status : ℕ) : Type 0 where
  pub checked : List Checked
  pub all : names_of checked ≡ check.traces
  pub right : AreRight check.options holds input checked left
  pub lines : Appends out out' (lines_of check.options.side checked)
  pub total : status ≡ status_of_all (statuses_of checked)

-- The output failed while these traces were checked, the first of those that were named: a front of
-- their lines was appended.
pub record ChecksSome (holds : List ℕ → Held) (check : CheckAsked)
    (input left out out' : Option (List ℕ)) : Type 0 where
  pub checked : List Checked
  pub count : ℕ
  pub some : names_of checked ≡ take count check.traces
  pub right : AreRight check.options holds input checked left
  pub lines : AppendsPart out out' (lines_of check.options.side checked)
