-- The text of a chart.
use Rattle.std.specs.Prelude.{ℕ, ◌+◌, ◌≤◌, ◌++◌, ◌==◌, if◌then◌else◌, List, [], Option, codes, decimal, length, map, is_none, is_some, option_map}
use Rattle.std.specs.List.{AllByRecursion}
use Rattle.ace_svg.specs.Elements.{rectangle, words_element}
use Rattle.ace_svg.specs.declared.geometry.Size.{Size}
use Rattle.ace_chart.specs.Cells.{last_cells, rows_cells}
use Rattle.ace_chart.specs.Legend.{legend}
use Rattle.ace_chart.specs.Lifelines.{lifelines}
use Rattle.ace_chart.specs.Marks.{IsNumbered, IsStopNumbered, band, gap_text, rows_text, stop_text}
use Rattle.ace_chart.specs.Places.{height, width, y_of}
use Rattle.ace_chart.specs.Side.{column, column_end, margin}
use Rattle.ace_chart.specs.Styles.{styles}
use Rattle.ace_chart.specs.declared.rows.Chart.{Chart}
use Rattle.ace_chart.specs.declared.rows.Row.{Row}
use Rattle.ace_model.specs.Trace.{more}
use Rattle.ace_side_facts.specs.declared.facts.SideFacts.{SideFacts}

-- It has a million rows at most, and its events have the numbers of events.
pub record IsDrawable (c : Chart) : Type 0 where
  pub few : length c.rows.items ≤ 1000000
  pub numbers : AllByRecursion IsNumbered c.rows.items
  pub stop : IsStopNumbered c.stop

-- how many rows it has, the event that breaks a rule among them
abbrev pub count_of : Chart → ℕ
count_of c = if is_some c.stop then length c.rows.items + 1 else length c.rows.items

-- the number of the last event of each row, the event that breaks a rule among them
abbrev pub last_of : Row → ℕ
last_of r = r.last

abbrev pub numbers_of : Chart → List ℕ
numbers_of c = more (map last_of c.rows.items) (option_map last_of c.stop)

-- the beginning of a picture of a size
unfoldable pub opening_start : List ℕ
opening_start = codes "<svg xmlns=\"http://www.w3.org/2000/svg\" viewBox=\"0 0 "

unfoldable pub view_box : Size → List ℕ
view_box size = opening_start ++ decimal size.width ++ codes " " ++ decimal size.height

unfoldable pub opening : Size → List ℕ
opening size =
    view_box size ++ codes "\" width=\"" ++ decimal size.width ++ codes "\" height=\""
    ++ decimal size.height ++ codes "\">\n"

-- of so many ports and rows, and so much wider
unfoldable pub page : ℕ → ℕ → ℕ → List ℕ
page ports rows wider =
    let size : Size = record { width = width ports + wider; height = height rows } in
    opening size ++ styles ++ rectangle (codes "page") (record { x = 0; y = 0 }) size

-- the name of the trace, and the verdict on it
unfoldable pub heading : List ℕ → List ℕ → List ℕ
heading name verdict =
    words_element (codes "heading") (record { x = 16; y = 28 }) name
    ++ words_element (codes "verdict") (record { x = 16; y = 50 }) verdict

-- a value under its name
unfoldable pub value_line : ℕ → List ℕ → List ℕ → List ℕ
value_line y name value =
    words_element (codes "value") (record { x = 16; y = y }) name
    ++ words_element (codes "value") (record { x = 84; y = y }) value

-- what a clause expects and what it got, if it expects a value
unfoldable pub values : ℕ → List ℕ → List ℕ → List ℕ
values y expected got =
    if length expected == 0 then []
    else value_line y (codes "expected") expected ++ value_line (y + 16) (codes "got") got

-- what is wrong, and where the rule is kept
unfoldable pub wrong_lines : ℕ → List ℕ → List ℕ → List ℕ
wrong_lines y wrong kept =
    words_element (codes "wrong") (record { x = 16; y = y }) wrong
    ++ words_element (codes "verdict") (record { x = 16; y = y + 20 }) kept

-- below so many rows: these, and the legend
unfoldable pub foot : ℕ → List ℕ → List ℕ → List ℕ → List ℕ → List ℕ
foot rows wrong kept expected got =
    wrong_lines (y_of rows + 36) wrong kept ++ values (y_of rows + 76) expected got
    ++ legend (y_of rows + 126)

-- what is behind the events: the page, the heading, the column of times and the lifelines
unfoldable pub frame : Chart → List ℕ → List ℕ → Option SideFacts → List ℕ
frame c name verdict side =
    page c.header.ports (count_of c) (margin side) ++ heading name verdict
    ++ column side (count_of c) ++ lifelines c.header side (y_of (count_of c))

-- the bars of the line, if there is one
unfoldable pub line_bars : Chart → List ℕ
line_bars c =
    if is_none c.line then []
    else rows_cells c.header.ports 0 c.rows.items
    ++ last_cells c.header.ports (length c.rows.items) c.stop c.last

-- the band of the event that breaks a rule, if there is one
unfoldable pub bands : Chart → List ℕ
bands c = if is_none c.stop then [] else band c.header.ports (length c.rows.items)

-- the events, and what is left out between them
unfoldable pub events : Chart → List ℕ
events c =
    rows_text c.header.ports c.stop 0 c.rows.items
    ++ gap_text c.header.ports (length c.rows.items) c.left_out
    ++ stop_text c.header.ports (length c.rows.items) c.stop

-- the chart under the name of its trace and the verdict on it, with what is wrong, where the rule
-- is kept, what it expects and got, and what a side file tells, if there is one
unfoldable pub chart_text : Chart → List ℕ → List ℕ → List ℕ → List ℕ → List ℕ → List ℕ
    → Option SideFacts → List ℕ
chart_text c name verdict wrong kept expected got side =
    frame c name verdict side ++ bands c ++ line_bars c ++ events c ++ column_end side
    ++ foot (count_of c) wrong kept expected got ++ codes "</svg>\n"
