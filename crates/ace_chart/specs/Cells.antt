-- The bars of a chart: the states of the line, its grant, and whether memory is behind. Each row
-- has its part of them, which ends at its event.
use Rattle.std.specs.Prelude.{ℕ, ◌+◌, ◌-◌, ◌*◌, ◌++◌, Bool, if◌then◌else◌, List, [], ◌∷◌, Option, Some, None, codes, decimal}
use Rattle.ace_codes.specs.declared.state.LineState.{LineState}
use Rattle.ace_event.specs.Text.{state_text}
use Rattle.ace_model.specs.declared.transactions.Transaction.{Transaction}
use Rattle.ace_svg.specs.Elements.{rectangle, title, title_end, title_start, words_element}
use Rattle.ace_tables.specs.States.{is_invalid, is_unique}
use Rattle.ace_event_words.specs.KindWords.{transaction_words}
use Rattle.ace_chart.specs.Places.{x_of, y_of}
use Rattle.ace_chart.specs.declared.places.Lifeline.{Lifeline}
use Rattle.ace_chart.specs.declared.places.Lifeline.TheVariants.{Port, Interconnect, Memory}
use Rattle.ace_chart.specs.declared.rows.Look.{Look}
use Rattle.ace_chart.specs.declared.rows.Row.{Row}

-- half of the width of a bar: wide where the line is unique
abbrev pub half_width : LineState → ℕ
half_width st = if is_unique st then 9 else 5

-- a part of a bar at the lifeline, from the event before to that of the row
unfoldable pub bar : ℕ → ℕ → Lifeline → List ℕ → ℕ → List ℕ
bar ports row at class half =
    rectangle class (record { x = x_of ports at - half; y = y_of row - 24 })
    (record { width = 2 * half; height = 24 })

-- what is told of a port and its state
unfoldable pub has_the_line : List ℕ
has_the_line = codes " has the line in "

unfoldable pub state_title : ℕ → LineState → List ℕ
state_title port st =
    title_start ++ codes "port " ++ decimal port ++ has_the_line ++ state_text st ++ title_end

-- of one port: none where it doesn't hold the line
unfoldable pub state_cell : ℕ → ℕ → ℕ → LineState → List ℕ
state_cell ports row port st =
    if is_invalid st then []
    else codes "<g>" ++ state_title port st
    ++ bar ports row (Port port) (state_text st) (half_width st)
    ++ words_element (codes "state") (record { x = x_of ports (Port port); y = y_of row - 9 })
    (state_text st)
    ++ codes "</g>\n"

-- of the ports from one on
unfoldable pub state_cells : ℕ → ℕ → ℕ → List LineState → List ℕ
state_cells ports row port [] = []
state_cells ports row port (st ∷ states) =
    state_cell ports row port st ++ state_cells ports row (port + 1) states

-- what is told of a grant
unfoldable pub granted_to : List ℕ
granted_to = codes "granted to "

unfoldable pub grant_title : Transaction → List ℕ
grant_title x =
    title_start ++ granted_to ++ transaction_words x ++ codes " of port "
    ++ decimal x.port ++ title_end

-- the part of the block of a grant
unfoldable pub grant_cell : ℕ → ℕ → Option Transaction → List ℕ
grant_cell ports row None = []
grant_cell ports row (Some x) =
    codes "<g>" ++ grant_title x ++ bar ports row Interconnect (codes "grant") 11 ++ codes "</g>\n"

-- what is told of memory, and the class of its bar
unfoldable pub memory_words : Bool → List ℕ
memory_words behind =
    if behind then codes "memory lacks the newest value of the line"
    else codes "memory has the newest value of the line"

unfoldable pub memory_class : Bool → List ℕ
memory_class behind = if behind then codes "behind" else codes "current"

-- the part of the bar of memory
unfoldable pub behind_cell : ℕ → ℕ → Bool → List ℕ
behind_cell ports row behind =
    codes "<g>" ++ title (memory_words behind) ++ bar ports row Memory (memory_class behind) 4
    ++ codes "</g>\n"

-- what a row has of them all
unfoldable pub look_cells : ℕ → ℕ → Look → List ℕ
look_cells ports row look =
    state_cells ports row 0 look.states ++ grant_cell ports row look.granted
    ++ behind_cell ports row look.behind

-- what the rows have, from one on
unfoldable pub rows_cells : ℕ → ℕ → List Row → List ℕ
rows_cells ports row [] = []
rows_cells ports row (r ∷ rows) = look_cells ports row r.look ++ rows_cells ports (row + 1) rows

-- the ends of the bars, behind so many rows
unfoldable pub last_cells : ℕ → ℕ → Option Row → Look → List ℕ
last_cells ports rows None last = look_cells ports rows last
last_cells ports rows (Some r) last =
    look_cells ports rows r.look ++ look_cells ports (rows + 1) last
