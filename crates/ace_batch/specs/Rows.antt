-- The line of a trace.
use Rattle.std.specs.Prelude.{ℕ, ◌+◌, ◌-◌, ◌++◌, ◌&&◌, Bool, flat_map, List, [], Option, Some, None, codes, decimal, fold, if◌then◌else◌, length, max, min, replicate, string_bytes}
use Rattle.ace_batch.specs.Outcomes.{has_name, is_accepted, word_of}
use Rattle.ace_batch.specs.declared.entry.Entry.{Entry}

-- behind a path: the number of a line, if there is one
abbrev pub line_part : Option ℕ → List ℕ
line_part None = []
line_part (Some line) = codes ":" ++ decimal line

-- the path, and the line that is refused or malformed
unfoldable pub place_text : Entry → List ℕ
place_text e = string_bytes e.path ++ line_part e.line

-- what is told: what is wrong, behind the clause or the reason if there is one
unfoldable pub what_text : Entry → List ℕ
what_text e =
    (if has_name e.outcome then e.signature.items ++ codes ": " else []) ++ e.message.items

-- the text in so many columns at least
unfoldable pub padded : ℕ → List ℕ → List ℕ
padded width text = text ++ replicate (width - length text) 32

-- the line of a trace, whose place stands in so many columns at least
unfoldable pub head_text : ℕ → Entry → List ℕ
head_text width e =
    word_of e.outcome ++ (padded width (place_text e) ++ codes "  ")

unfoldable pub row_text : ℕ → Entry → List ℕ
row_text width e = head_text width e ++ (what_text e ++ codes "\n")

-- The columns of the places: those of the longest path and five for a line, and 64 at most.
abbrev pub width_with : ℕ → Entry → ℕ
width_with width e = max width (length (string_bytes e.path))

abbrev pub row_width : List Entry → ℕ
row_width entries = min (fold width_with 8 entries + 5) 64

-- the line of a trace, where those of accepted ones may be left out
unfoldable pub shown_row : Bool → ℕ → Entry → List ℕ
shown_row failed width e = if failed && is_accepted e.outcome then [] else row_text width e

-- the lines of traces
unfoldable pub rows_text : Bool → List Entry → List ℕ
rows_text failed entries = flat_map (shown_row failed (row_width entries)) entries
