-- What a side file tells beside a chart: the names of ports, which stand in their heads, and the
-- times of rows, which stand in a column at the left.
use Rattle.std.specs.Prelude.{ℕ, ◌+◌, ◌++◌, List, [], ◌∷◌, Option, Some, None, codes, decimal, take}
use Rattle.ace_chart.specs.Places.{y_of}
use Rattle.ace_side_facts.specs.Facts.{name_in, times_in, unit_in}
use Rattle.ace_side_facts.specs.declared.facts.SideFacts.{SideFacts}
use Rattle.ace_svg.specs.Elements.{words_element}

-- the name of a port, if it is told
abbrev pub name_of : Option SideFacts → ℕ → Option (List ℕ)
name_of None p = None
name_of (Some f) p = name_in f p

-- what stands below the number of a port in its head: the first 32 characters of its name; where it
-- has none, what is behind it
abbrev pub below_port : Option (List ℕ) → List ℕ → List ℕ
below_port None kind = kind
below_port (Some name) kind = take 32 name

-- how much wider the picture is at the left
abbrev pub margin : Option SideFacts → ℕ
margin None = 0
margin (Some f) = 84

-- the unit of the times, if it is told
abbrev pub unit_text : Option (List ℕ) → List ℕ
unit_text None = []
unit_text (Some unit) = words_element (codes "time") (record { x = 12; y = 100 }) unit

-- the time of a row, if it is told, and the times from one row on
abbrev pub time_text : ℕ → Option ℕ → List ℕ
time_text row None = []
time_text row (Some time) =
    words_element (codes "time") (record { x = 12; y = y_of row + 4 }) (decimal time)

unfoldable pub times_text : ℕ → List (Option ℕ) → List ℕ
times_text row [] = []
times_text row (time ∷ times) = time_text row time ++ times_text (row + 1) times

-- the column of so many rows, and the beginning of what stands right of it
unfoldable pub column_text : SideFacts → ℕ → List ℕ
column_text f rows =
    unit_text (unit_in f) ++ times_text 0 (take rows (times_in f))
    ++ codes "<g transform=\"translate(84)\">\n"

abbrev pub column : Option SideFacts → ℕ → List ℕ
column None rows = []
column (Some f) rows = column_text f rows

-- the end of that
abbrev pub column_end : Option SideFacts → List ℕ
column_end None = []
column_end (Some f) = codes "</g>\n"
