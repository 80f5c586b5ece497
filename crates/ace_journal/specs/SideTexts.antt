-- What a side file tells, in words.
use Rattle.std.specs.Prelude.{ℕ, ◌==◌, ◌-◌, ◌++◌, if◌then◌else◌, List, [], Option, Some, None, codes, decimal, length, replicate, take}
use Rattle.ace_event.specs.Text.{hex_text}
use Rattle.ace_side.specs.declared.line.Digits.{Digits}
use Rattle.ace_side_facts.specs.Facts.{note_in, real_in, time_in, unit_in}
use Rattle.ace_side_facts.specs.declared.facts.SideFacts.{SideFacts}

-- the unit behind a time
abbrev pub unit_part : Option (List ℕ) → List ℕ
unit_part None = []
unit_part (Some unit) = codes " " ++ unit

-- a time with its unit; nothing where there is none
unfoldable pub time_words : SideFacts → Option ℕ → List ℕ
time_words f None = []
time_words f (Some time) = decimal time ++ unit_part (unit_in f)

-- that of an event
abbrev pub time_text : SideFacts → ℕ → List ℕ
time_text f event = time_words f (time_in f event)

-- the text, behind at most 64 spaces at the right of so many columns
unfoldable pub right_in : ℕ → List ℕ → List ℕ
right_in width text = take (width - length text) (replicate 64 32) ++ text

-- the time of an event in a column of this width; nothing where there is no such column
unfoldable pub time_column : SideFacts → ℕ → ℕ → List ℕ
time_column f width event =
    if width == 0 then [] else right_in width (time_text f event) ++ codes "  "

-- the address that a line has in the design, if it is known
abbrev pub real_part : Option Digits → List ℕ
real_part None = []
real_part (Some real) = codes " (real address " ++ hex_text 16 real.value ++ codes ")"

abbrev pub real_words : SideFacts → Option ℕ → List ℕ
real_words f None = []
real_words f (Some line) = real_part (real_in f line)

-- the remark at an event, in a line of its own
abbrev pub note_line : Option (List ℕ) → List ℕ
note_line None = []
note_line (Some text) = codes "  note: " ++ text ++ codes "\n"

abbrev pub note_text : SideFacts → ℕ → List ℕ
note_text f event = note_line (note_in f event)

-- the time at which an event is
unfoldable pub moment : SideFacts → ℕ → List ℕ
moment f event =
    if length (time_text f event) == 0 then [] else codes "    at " ++ time_text f event
