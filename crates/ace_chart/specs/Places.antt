-- Where things are drawn: units to the right of the left edge, and below the upper one.
use Rattle.std.specs.Prelude.{ℕ, ◌+◌, ◌-◌, ◌*◌, ◌/◌, max, nat_lt, if◌then◌else◌}
use Rattle.ace_chart.specs.declared.places.Lifeline.{Lifeline}
use Rattle.ace_chart.specs.declared.places.Lifeline.TheVariants.{Port, Interconnect, Memory}

-- how many ports stand left of the interconnect, and the others right of it
abbrev pub left_ports : ℕ → ℕ
left_ports ports = (ports + 1) / 2

-- The column of a lifeline, from 0: the interconnect stands amid the ports, and memory at the
-- right. A port that the header doesn't have is drawn at the interconnect.
abbrev pub column_of : ℕ → Lifeline → ℕ
column_of ports (Port p) =
    if nat_lt p (left_ports ports) then p else (if nat_lt p ports then p + 1 else left_ports ports)
column_of ports Interconnect = left_ports ports
column_of ports Memory = ports + 1

-- the middle of its column
abbrev pub x_of : ℕ → Lifeline → ℕ
x_of ports at = 150 + 200 * column_of ports at

-- the event of a row, from row 0 on
abbrev pub y_of : ℕ → ℕ
y_of row = 130 + 24 * row

-- An arrow between a lifeline and the interconnect, which is at `middle`: its end at the lifeline,
-- its end at the interconnect, and the middle of the lane beside the lifeline.
abbrev pub near_x : ℕ → ℕ → ℕ
near_x x middle = if nat_lt x middle then x + 12 else x - 12

abbrev pub far_x : ℕ → ℕ → ℕ
far_x x middle = if nat_lt x middle then middle - 13 else middle + 13

abbrev pub lane_x : ℕ → ℕ → ℕ
lane_x x middle = if nat_lt x middle then x + 100 else x - 100

-- how wide the picture is, with room for what is told below it where there are few ports, and how
-- high
abbrev pub width : ℕ → ℕ
width ports = max 880 (x_of ports Memory + 120)

abbrev pub height : ℕ → ℕ
height rows = y_of rows + 180
