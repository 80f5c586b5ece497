-- The text of a side file, in bytes: a first line, and a line for each remark.
use Rattle.std.specs.Prelude.{ℕ, List, [], ◌∷◌, ◌++◌, codes, decimal}
use Rattle.std.specs.List.{join_with_byte}
use Rattle.ace_event.specs.Text.{hex_text, line_text}
use Rattle.ace_side.specs.declared.line.Digits.{Digits}
use Rattle.ace_side.specs.declared.line.SideLine.{SideLine}
use Rattle.ace_side.specs.declared.line.SideLine.TheVariants.{TimeUnit, Port, Addr, Time, Id, Note, Word, End, Broken, Cut}

-- the first line, without its line feed
abbrev pub first_text : List ℕ
first_text = codes "ACE SIDE 1"

abbrev pub digits_text : Digits → List ℕ
digits_text d = hex_text d.count d.value

-- the word of a line, and its fields; the name of a port and the text of a note may hold spaces
abbrev pub side_fields : SideLine → List (List ℕ)
side_fields (TimeUnit word) = codes "UNIT" ∷ word ∷ []
side_fields (Port port name) = codes "PORT" ∷ hex_text 2 port ∷ name ∷ []
side_fields (Addr addr real) = codes "ADDR" ∷ hex_text 8 addr ∷ digits_text real ∷ []
side_fields (Time event time) = codes "T" ∷ decimal event ∷ decimal time ∷ []
side_fields (Id event id) = codes "ID" ∷ decimal event ∷ digits_text id ∷ []
side_fields (Note event text) = codes "NOTE" ∷ decimal event ∷ text ∷ []
side_fields (Word word real) = codes "WORD" ∷ hex_text 8 word ∷ digits_text real ∷ []
side_fields (End count) = codes "END" ∷ decimal count ∷ []
side_fields (Broken count) = codes "BROKEN" ∷ decimal count ∷ []
side_fields (Cut count) = codes "CUT" ∷ decimal count ∷ []

-- The text of a line, without its line feed: one space stands between each two.
abbrev pub side_text : SideLine → List ℕ
side_text line = join_with_byte 32 (side_fields line)

-- the text of the first line and of these behind it, of which the newest stands first
abbrev pub side_file : List SideLine → List ℕ
side_file [] = line_text first_text
side_file (line ∷ past) = side_file past ++ line_text (side_text line)
