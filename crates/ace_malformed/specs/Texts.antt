-- The text that tells of a malformed line.
use Rattle.std.specs.Prelude.{ℕ, ◌-◌, ◌==◌, nat_lt, Bool, if◌then◌else◌, List, [], ◌++◌, codes, decimal, drop, length, replicate, take}
use Rattle.ace_grammar.specs.Reasons.{number_of_reason}
use Rattle.ace_malformed.specs.Places.{column_of}
use Rattle.ace_malformed.specs.Sentences.{expected, shown, wrong_sentence}
use Rattle.ace_malformed.specs.Lines.{line_of}
use Rattle.ace_malformed.specs.declared.bad_line.BadLine.{BadLine}

-- the first line, as a compiler tells of an error: FILE:LINE:COLUMN, the verdict, and what is wrong
unfoldable pub place_text : List ℕ → ℕ → ℕ → List ℕ
place_text name line column = name ++ codes ":" ++ decimal line ++ codes ":" ++ decimal column

unfoldable pub verdict_words : List ℕ
verdict_words = codes ": malformed line "

unfoldable pub line_part : ℕ → List ℕ
line_part line = verdict_words ++ decimal line

unfoldable pub reason_part : ℕ → List ℕ
reason_part reason = codes ": F" ++ decimal reason ++ codes ": "

unfoldable pub first_line : List ℕ → BadLine → List ℕ
first_line name b =
    place_text name b.number (column_of b) ++ line_part b.number
    ++ reason_part (number_of_reason b.reason) ++ wrong_sentence b ++ codes "\n"

-- how many bytes of the line stand before those that are shown
unfoldable pub hidden : BadLine → ℕ
hidden b = column_of b - 51

-- up to 100 bytes behind so many
unfoldable pub window : ℕ → List ℕ → List ℕ
window start line = take 100 (drop start line)

-- up to 100 bytes of the line, and below them a caret at the column
unfoldable pub line_shown : BadLine → List ℕ
line_shown b = codes "\n  " ++ shown (window (hidden b) (line_of b)) ++ codes "\n"

unfoldable pub caret : BadLine → List ℕ
caret b = codes "  " ++ take (column_of b - 1 - hidden b) (replicate 64 32) ++ codes "^\n"

-- what may stand there, if that can be said
unfoldable pub expected_line : List ℕ → List ℕ
expected_line text = if length text == 0 then [] else codes "  expected  " ++ text ++ codes "\n"

-- how many events were read before the line
unfoldable pub events_read : ℕ → List ℕ
events_read count =
    codes "  Events 1 to " ++ decimal count ++ codes " were read, and break no rule.\n"

unfoldable pub read_line : ℕ → List ℕ
read_line number =
    if nat_lt number 3 then []
    else (if number == 3 then codes "  No event was read.\n"
    else (if number == 4 then codes "  Event 1 was read, and breaks no rule.\n"
    else events_read (number - 3)))

unfoldable pub rest_of_text : BadLine → List ℕ
rest_of_text b = line_shown b ++ caret b ++ expected_line (expected b) ++ read_line b.number

-- what is told of the line in the trace of this name: the first line alone where that was asked for
unfoldable pub bad_line_text : List ℕ → Bool → BadLine → List ℕ
bad_line_text name short b = first_line name b ++ (if short then [] else rest_of_text b)
