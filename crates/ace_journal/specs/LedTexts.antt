-- The text of what led to an event.
use Rattle.std.specs.Prelude.{ℕ, ◌+◌, ◌==◌, ◌-◌, ◌++◌, Bool, not, if◌then◌else◌, List, [], ◌∷◌, Option, Some, None, codes, decimal, is_some, length, replicate, take}
use Rattle.ace_clauses.specs.declared.letters.Letter.{Letter}
use Rattle.ace_event.specs.Text.{hex_text}
use Rattle.ace_event_words.specs.Sentences.{deed_words, record_column}
use Rattle.ace_event_words.specs.declared.deed.Deed.{Deed}
use Rattle.ace_event_words.specs.declared.transfers.Transfers.{Transfers}
use Rattle.ace_event_words.specs.declared.transfers.Transfers.TheVariants.{One, Several}
use Rattle.ace_journal.specs.Marks.{looks_for, marks_by, port_of}
use Rattle.ace_journal.specs.Rows.{earlier_than}
use Rattle.ace_journal.specs.SideTexts.{real_words, time_column, time_text}
use Rattle.ace_journal.specs.declared.led.Led.{Led}
use Rattle.ace_journal.specs.declared.looks.Looks.{Looks}
use Rattle.ace_journal.specs.declared.rows.Row.{Row}
use Rattle.ace_model.specs.AddressRules.{is_aligned}
use Rattle.ace_side_facts.specs.declared.facts.SideFacts.{SideFacts}

-- the row stands for more than one event
abbrev pub is_many : Row → Bool
is_many row = not (row.first == row.last)

-- the number of its event, or of the first and the last
unfoldable pub numbers_text : Row → List ℕ
numbers_text row =
    if is_many row then decimal row.first ++ codes "-" ++ decimal row.last else decimal row.first

-- the text, at the right of nine columns
unfoldable pub right_of : List ℕ → List ℕ
right_of text = take (9 - length text) (replicate 9 32) ++ text

-- how many transfers the row tells of, if it tells of any
abbrev pub transfers_of : Row → Transfers
transfers_of row = if is_many row then Several else One

-- the record, and what it does
unfoldable pub told_words : Transfers → Deed → List ℕ
told_words transfers deed = record_column deed ++ deed_words transfers deed

-- a row behind what it begins with, which tells of so many transfers, up to its marks; its time is
-- that of its last event, at the right of so many columns
unfoldable pub row_text : SideFacts → ℕ → List ℕ → Transfers → Row → List ℕ
row_text f width start transfers row =
    start ++ right_of (numbers_text row) ++ codes "  " ++ time_column f width row.last
    ++ told_words transfers row.deed

-- the line, if there is one: the address, where that is of none
unfoldable pub line_words : Option ℕ → List ℕ
line_words None = []
line_words (Some l) =
    (if is_aligned l then codes ", line " else codes ", address ") ++ hex_text 8 l

-- the event in words, with the address that its line has in the design, where that is known
unfoldable pub event_words : SideFacts → Led → List ℕ
event_words f d =
    codes "  " ++ deed_words d.transfers d.own.deed ++ line_words d.line ++ real_words f d.line
    ++ codes "\n"

unfoldable pub heading_words : List ℕ
heading_words = codes "\n  What led here"

unfoldable pub heading_text : Option ℕ → List ℕ
heading_text line = heading_words ++ line_words line ++ codes "\n"

-- the row, behind which these newer ones stand, with its marks
unfoldable pub marked_row : SideFacts → ℕ → Looks → ℕ → List Row → Row → List ℕ
marked_row f width looks port newer row =
    row_text f width (codes "    ") (transfers_of row) row ++ marks_by looks port newer row
    ++ codes "\n"

-- The column of times is as wide as the time of the event itself. No other one is longer, as times
-- don't fall.
abbrev pub width_of : SideFacts → Led → ℕ
width_of f d = length (time_text f d.own.last)

-- that so many events came before the rows, if any did: loads that aren't exclusive and ends of
-- operations aren't counted
unfoldable pub earlier_words : Option ℕ → ℕ → List ℕ
earlier_words line count =
    (if count == 1 then codes " earlier event" else codes " earlier events")
    ++ (if is_some line then codes " of the line\n" else codes " without a line\n")

unfoldable pub gap_start : List ℕ
gap_start = codes "          ...  "

unfoldable pub earlier_row : Option ℕ → ℕ → List ℕ
earlier_row line count =
    if count == 0 then []
    else gap_start ++ decimal count ++ earlier_words line count

-- the row of the event itself
unfoldable pub own_row : SideFacts → Led → List ℕ
own_row f d = row_text f (width_of f d) (codes "  > ") d.transfers d.own ++ codes "\n"

-- the rows that have so many newer ones, of which the newest stands first here and is the last in
-- the text
abbrev pub rows_text : SideFacts → ℕ → Looks → ℕ → List Row → ℕ → List Row → List ℕ
rows_text f width looks port all newer [] = []
rows_text f width looks port all newer (row ∷ rows) =
    rows_text f width looks port all (newer + 1) rows
    ++ marked_row f width looks port (take newer all) row

-- what led to the event, which breaks this clause, and the event itself; nothing where nothing led
-- there
unfoldable pub led_text : SideFacts → ℕ → Letter → Led → List ℕ
led_text f rule letter d =
    if d.count == 0 then []
    else heading_text d.line
    ++ earlier_row d.line (earlier_than (take d.count d.rows))
    ++ rows_text f (width_of f d) (looks_for d.line rule letter) (port_of d.own.deed)
    (take d.count d.rows) 0 (take d.count d.rows)
    ++ own_row f d
