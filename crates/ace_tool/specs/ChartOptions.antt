-- The options of `chart`, by their words.
use Rattle.std.specs.Prelude.{◌≡◌, ◌-◌, ◌%◌, ◌^◌, ◌&&◌, ℕ, Bool, false, if◌then◌else◌, List, [], ◌∷◌, length, nat_le, nat_lt, Option, None, Some, is_some, codes, bytes_eq, option_and_then}
use Rattle.ace_drawing.specs.declared.line_choice.LineChoice.{LineChoice}
use Rattle.ace_drawing.specs.declared.line_choice.LineChoice.TheVariants.{Chosen, All, Line}
use Rattle.ace_grammar.specs.Fields.{digits_onto}
use Rattle.ace_tool.specs.Asked.{IsLimit}
use Rattle.ace_tool.specs.declared.chart_options.ChartValued.{ChartValued}
use Rattle.ace_tool.specs.declared.chart_options.ChartValued.TheVariants as option

-- each has a value, which is the next word or stands behind `=`
abbrev pub chart_valued : List (List ℕ × ChartValued)
chart_valued =
    (codes "-o", option.Out) ∷ (codes "--line", option.Line) ∷ (codes "--rows", option.Rows)
    ∷ (codes "--events", option.Events) ∷ (codes "--around", option.Around)
    ∷ (codes "--port", option.Port) ∷ (codes "--title", option.Title)
    ∷ (codes "--side", option.Side) ∷ []

-- the options that were given, with their values as they stand, and whether `--no-side` was
pub record ChartGiven : Type 0 where
  pub out : Option (List ℕ)
  pub line : Option (List ℕ)
  pub rows : Option (List ℕ)
  pub events : Option (List ℕ)
  pub around : Option (List ℕ)
  pub port : Option (List ℕ)
  pub title : Option (List ℕ)
  pub side : Option (List ℕ)
  pub no_side : Bool

abbrev pub no_chart_options : ChartGiven
no_chart_options = record {
  out = None;
  line = None;
  rows = None;
  events = None;
  around = None;
  port = None;
  title = None;
  side = None;
  no_side = false;
}

-- one more, which can be given once
abbrev pub with_chart_value : ChartValued → List ℕ → ChartGiven → Option ChartGiven
with_chart_value option.Out value given =
    if is_some given.out then None else Some (record given { out = Some value })
with_chart_value option.Line value given =
    if is_some given.line then None else Some (record given { line = Some value })
with_chart_value option.Rows value given =
    if is_some given.rows then None else Some (record given { rows = Some value })
with_chart_value option.Events value given =
    if is_some given.events then None else Some (record given { events = Some value })
with_chart_value option.Around value given =
    if is_some given.around then None else Some (record given { around = Some value })
with_chart_value option.Port value given =
    if is_some given.port then None else Some (record given { port = Some value })
with_chart_value option.Title value given =
    if is_some given.title then None else Some (record given { title = Some value })
with_chart_value option.Side value given =
    if is_some given.side then None else Some (record given { side = Some value })

-- the line that holds an address
abbrev pub line_at : ℕ → Option LineChoice
line_at address = if nat_lt address (2 ^ 32) then Some (Line (address - address % 64)) else None

-- the line that holds the address of one to eight hexadecimal digits
abbrev pub line_of_digits : List ℕ → Option LineChoice
line_of_digits word =
    if nat_le 1 (length word) && nat_le (length word) 8
    then option_and_then line_at (digits_onto 0 word) else None

abbrev pub line_of_word : List ℕ → Option LineChoice
line_of_word word = if bytes_eq word (codes "all") then Some All else line_of_digits word

-- the line that the word of `--line` says, if it is right; without one it is chosen
abbrev pub line_said : Option (List ℕ) → Option LineChoice
line_said None = Some Chosen
line_said (Some word) = line_of_word word

-- The word of `--rows` says so many rows, up to a million; without one there may be 400.
abbrev pub AreRows : Option (List ℕ) → ℕ → Type 0
AreRows None rows = rows ≡ 400
AreRows (Some word) rows = IsLimit 1000000 (Some word) rows
