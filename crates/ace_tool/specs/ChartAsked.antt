-- What the words behind `chart` ask.
use Rattle.std.specs.Prelude.{◌≡◌, ◌&&◌, ◌==◌, ℕ, Bool, true, false, if◌then◌else◌, not, List, [], ◌∷◌, Option, None, Some, is_some, codes, bytes_eq, option_and_then, option_map}
use Rattle.std.specs.List.{after_first, before_first}
use Rattle.std.specs.Map.{lookup}
use Rattle.ace_chart_rows.specs.declared.selection.Selection.{Selection}
use Rattle.ace_drawing.specs.declared.line_choice.LineChoice.{LineChoice}
use Rattle.ace_tool.specs.Asked.{SideAsked, has_hyphen, is_input, side_said}
use Rattle.ace_tool.specs.ChartOptions.{AreRows, ChartGiven, chart_valued, line_said, no_chart_options, with_chart_value}
use Rattle.ace_tool.specs.ChartSelected.{Selects}
use Rattle.ace_tool.specs.ExplainAsked.{some_trace}
use Rattle.ace_tool.specs.Options.{has_equals}
use Rattle.ace_tool.specs.declared.chart_options.ChartValued.{ChartValued}

-- What the words so far ask: the name of a trace, if it came, and options. `--` may have come,
-- behind which a word is a name; and an option may wait for its value, which is the next word.
pub record ChartSoFar : Type 0 where
  pub trace : Option (List ℕ)
  pub names_only : Bool
  pub waiting : Option ChartValued
  pub given : ChartGiven

abbrev pub nothing_to_draw : ChartSoFar
nothing_to_draw =
    record { trace = None; names_only = false; waiting = None; given = no_chart_options }

-- the name of the trace, of which there may be one
abbrev pub with_drawn_name : List ℕ → ChartSoFar → Option ChartSoFar
with_drawn_name word a = if is_some a.trace then None else Some (record a { trace = Some word })

-- the value of an option
abbrev pub with_drawn_value : Option ChartValued → List ℕ → ChartSoFar → Option ChartSoFar
with_drawn_value None value a = None
with_drawn_value (Some option) value a =
    option_map (λ g. record a { given = g }) (with_chart_value option value a.given)

-- the name of an option, whose value is the next word
abbrev pub with_drawn_option : Option ChartValued → ChartSoFar → Option ChartSoFar
with_drawn_option None a = None
with_drawn_option (Some option) a = Some (record a { waiting = Some option })

-- an option that has a value
abbrev pub with_drawn_valued : List ℕ → ChartSoFar → Option ChartSoFar
with_drawn_valued word a =
    if has_equals word
    then with_drawn_value (lookup (bytes_eq (before_first (λ b. b == 61) word)) chart_valued)
    (after_first (λ b. b == 61) word) a
    else with_drawn_option (lookup (bytes_eq word) chart_valued) a

-- the same, or `--no-side`, which has no value
abbrev pub with_drawn_hyphen : List ℕ → ChartSoFar → Option ChartSoFar
with_drawn_hyphen word a =
    if bytes_eq word (codes "--no-side")
    then Some (record a { given = record a.given { no_side = true } })
    else with_drawn_valued word a

-- A word that is no value. Before `--` those that begin with `-` are options, but `-` is a name.
abbrev pub with_drawn_word : List ℕ → ChartSoFar → Option ChartSoFar
with_drawn_word word a =
    if a.names_only then with_drawn_name word a
    else if bytes_eq word (codes "--") then Some (record a { names_only = true })
    else if has_hyphen word && not (is_input word) then with_drawn_hyphen word a
    else with_drawn_name word a

-- What is asked with one more word, by the option that waits; none where it is wrong there.
abbrev pub with_drawn_by : Option ChartValued → List ℕ → ChartSoFar → Option ChartSoFar
with_drawn_by (Some option) word a =
    with_drawn_value (Some option) word (record a { waiting = None })
with_drawn_by None word a = with_drawn_word word a

abbrev pub with_drawn : List ℕ → ChartSoFar → Option ChartSoFar
with_drawn word a = with_drawn_by a.waiting word a

-- the same with some more words
abbrev pub with_drawn_all : Option ChartSoFar → List (List ℕ) → Option ChartSoFar
with_drawn_all a [] = a
with_drawn_all a (word ∷ rest) = with_drawn_all (option_and_then (with_drawn word) a) rest

-- What `chart` is asked: of which trace, of which line and which events of it, in how many rows,
-- under which title, with which side file, and into which file; without one it is told.
pub record ChartAsked : Type 0 where
  pub trace : List ℕ
  pub out : Option (List ℕ)
  pub line : LineChoice
  pub rows : ℕ
  pub selection : Selection
  pub title : Option (List ℕ)
  pub side : SideAsked

-- It is asked to do this, where its words are right.
pub record IsChartAsked (asked : ChartSoFar) (chart : ChartAsked) : Type 0 where
  pub whole : asked.waiting ≡ None
  pub trace : chart.trace ≡ some_trace asked.trace
  pub out : chart.out ≡ asked.given.out
  pub line : line_said asked.given.line ≡ Some chart.line
  pub rows : AreRows asked.given.rows chart.rows
  pub selection : Selects asked.given chart.selection
  pub title : chart.title ≡ asked.given.title
  pub side : side_said asked.given.side asked.given.no_side ≡ Some chart.side

-- The words behind `chart` ask it to do this.
abbrev pub AsksChart : List (List ℕ) → ChartAsked → Type 0
AsksChart words chart =
    (asked : ChartSoFar) × (with_drawn_all (Some nothing_to_draw) words ≡ Some asked)
    × IsChartAsked asked chart
