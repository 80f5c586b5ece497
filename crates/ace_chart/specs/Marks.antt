-- The events of a chart: arrows and steps, with their numbers and labels.
use Rattle.std.specs.Prelude.{ℕ, ⊤, ◌≤◌, ◌+◌, ◌-◌, ◌++◌, ◌==◌, Bool, true, false, if◌then◌else◌, List, [], ◌∷◌, Option, Some, None, codes, decimal}
use Rattle.ace_event.specs.declared.event.Event.{Event}
use Rattle.ace_event.specs.declared.event.Event.TheVariants.{Ar, R, Rk, Aw, W, B, Wk, Ac, Cr, Cd, G, M, S, L, D, Op, Mem}
use Rattle.ace_svg.specs.Elements.{line_element, rectangle, title, words_element}
use Rattle.ace_svg.specs.declared.geometry.Point.{Point}
use Rattle.ace_chart.specs.Labels.{label}
use Rattle.ace_chart.specs.Places.{far_x, lane_x, near_x, width, x_of, y_of}
use Rattle.ace_chart.specs.Reasons.{reason_text}
use Rattle.ace_chart.specs.declared.marks.Mark.{Mark}
use Rattle.ace_chart.specs.declared.marks.Mark.TheVariants.{Sent, Received, Step}
use Rattle.ace_chart.specs.declared.marks.Style.{Style}
use Rattle.ace_chart.specs.declared.marks.Style.TheVariants as style
use Rattle.ace_chart.specs.declared.places.Lifeline.{Lifeline}
use Rattle.ace_chart.specs.declared.places.Lifeline.TheVariants.{Port, Interconnect, Memory}
use Rattle.ace_chart.specs.declared.rows.Row.{Row}

-- how an event is drawn
abbrev pub mark_of : Event → Mark
mark_of (Ar p id addr snoop dom bar lock) = Sent (Port p) style.Address
mark_of (Aw p id addr snoop dom bar) = Sent (Port p) style.Address
mark_of (W p strb last word) = Sent (Port p) style.Data
mark_of (Cd p last word) = Sent (Port p) style.Data
mark_of (Rk p st) = Sent (Port p) style.Response
mark_of (Wk p st) = Sent (Port p) style.Response
mark_of (Cr p resp st) = Sent (Port p) style.Snoop
mark_of (R p id resp last word) = Received (Port p) style.Data
mark_of (B p id resp) = Received (Port p) style.Response
mark_of (Ac p addr snoop) = Received (Port p) style.Snoop
mark_of (M p chan id line) = Received Memory style.Memory
mark_of (Mem addr line) = Step Memory style.Memory
mark_of (G p chan id) = Step Interconnect style.Grant
mark_of (S p addr st) = Step (Port p) style.Local
mark_of (L p addr w x word) = Step (Port p) style.Local
mark_of (D p addr strobe x line) = Step (Port p) style.Local
mark_of (Op p k res) = Step (Port p) style.Local

-- the class of a message or step; the event that breaks a rule has its own
abbrev pub style_word : Bool → Style → List ℕ
style_word true s = codes "stop"
style_word false style.Address = codes "address"
style_word false style.Data = codes "data"
style_word false style.Response = codes "response"
style_word false style.Snoop = codes "snoop"
style_word false style.Memory = codes "memory"
style_word false style.Grant = codes "granting"
style_word false style.Local = codes "local"

abbrev pub label_class : Bool → List ℕ
label_class stop = if stop then codes "stop-label" else codes "label"

abbrev pub beside_class : Bool → List ℕ
beside_class stop = if stop then codes "stop-beside" else codes "beside"

-- an arrow between the lifeline and the interconnect: from the lifeline, if it was sent there
unfoldable pub arrow : ℕ → List ℕ → Lifeline → ℕ → Bool → List ℕ
arrow ports class at y sent =
    let near : Point = record { x = near_x (x_of ports at) (x_of ports Interconnect); y = y } in
    let far : Point = record { x = far_x (x_of ports at) (x_of ports Interconnect); y = y } in
    if sent then line_element class near far else line_element class far near

-- a message: its arrow, and its label in the lane beside the lifeline
unfoldable pub message : ℕ → ℕ → Bool → Lifeline → Style → Bool → List ℕ → List ℕ
message ports row stop at s sent words =
    arrow ports (style_word stop s) at (y_of row) sent
    ++ words_element (label_class stop)
    (record { x = lane_x (x_of ports at) (x_of ports Interconnect); y = y_of row - 4 }) words

-- a step: a square, and its label beside it
unfoldable pub step : ℕ → ℕ → Bool → Lifeline → Style → List ℕ → List ℕ
step ports row stop at s words =
    rectangle (style_word stop s) (record { x = x_of ports at - 5; y = y_of row - 5 })
    (record { width = 10; height = 10 })
    ++ words_element (beside_class stop) (record { x = x_of ports at + 16; y = y_of row + 4 }) words

unfoldable pub mark_text : ℕ → ℕ → Bool → Mark → List ℕ → List ℕ
mark_text ports row stop (Sent at s) words = message ports row stop at s true words
mark_text ports row stop (Received at s) words = message ports row stop at s false words
mark_text ports row stop (Step at s) words = step ports row stop at s words

-- the number of an event, and the line of the trace that it is: the lines of the header are 1 and 2
unfoldable pub number_words : ℕ → List ℕ
number_words number =
    codes "event " ++ decimal number ++ codes ", line " ++ decimal (number + 2)
    ++ codes " of the trace"

-- the same of the first and the last of several, or of one that is alone
unfoldable pub about_words : ℕ → ℕ → List ℕ
about_words number last =
    number_words number
    ++ (if number == last then [] else codes ", to " ++ number_words last)

-- the numbers of both
unfoldable pub numbers_words : ℕ → ℕ → List ℕ
numbers_words number last =
    decimal number ++ (if number == last then [] else codes "-" ++ decimal last)

-- the numbers at the left
unfoldable pub numbers_text : ℕ → ℕ → ℕ → List ℕ
numbers_text row number last =
    words_element (codes "number") (record { x = 96; y = y_of row + 4 }) (numbers_words number last)

-- an event or transfers of a burst: the title, the numbers at the left, and the mark
unfoldable pub row_text : ℕ → ℕ → Bool → Row → List ℕ
row_text ports row stop r =
    codes "<g>" ++ title (about_words r.number r.last)
    ++ numbers_text row r.number r.last
    ++ mark_text ports row stop (mark_of r.event) (label r) ++ codes "</g>\n"

-- what is told of events that are left out
unfoldable pub left_out_words : ℕ → List ℕ
left_out_words count = decimal count ++ codes " left out"

-- a dotted rule above a row, with the number of events that are left out there
unfoldable pub gap : ℕ → ℕ → ℕ → List ℕ
gap ports row count =
    line_element (codes "gap") (record { x = 16; y = y_of row - 19 })
    (record { x = width ports - 16; y = y_of row - 19 })
    ++ words_element (codes "gap") (record { x = 16; y = y_of row - 9 }) (left_out_words count)

-- the same where any are
unfoldable pub gap_text : ℕ → ℕ → ℕ → List ℕ
gap_text ports row count = if count == 0 then [] else gap ports row count

-- an event, below what is left out before it, and why it is marked, where an event that breaks a
-- rule is drawn
unfoldable pub event_text : ℕ → Option Row → ℕ → Row → List ℕ
event_text ports stop row r =
    gap_text ports row r.left_out ++ row_text ports row false r ++ reason_text ports row stop r

-- the events, from a row on
unfoldable pub rows_text : ℕ → Option Row → ℕ → List Row → List ℕ
rows_text ports stop row [] = []
rows_text ports stop row (r ∷ rows) =
    event_text ports stop row r ++ rows_text ports stop (row + 1) rows

-- the event that breaks a rule, on a band
unfoldable pub band : ℕ → ℕ → List ℕ
band ports row =
    rectangle (codes "band") (record { x = 8; y = y_of row - 18 })
    (record { width = width ports - 16; height = 30 })

unfoldable pub stop_text : ℕ → ℕ → Option Row → List ℕ
stop_text ports row None = []
stop_text ports row (Some r) = row_text ports row true r

-- its numbers are those of events of a trace
abbrev pub IsNumber : ℕ → Type 0
IsNumber number = number ≤ 18446744073709551613

abbrev pub IsNumbered : Row → Type 0
IsNumbered r = IsNumber r.number × IsNumber r.last

abbrev pub IsStopNumbered : Option Row → Type 0
IsStopNumbered None = ⊤
IsStopNumbered (Some r) = IsNumbered r
