-- Where in a malformed line something is wrong. Columns count bytes, from 1.
use Rattle.std.specs.Prelude.{ℕ, ◌+◌, ◌==◌, ◌||◌, Bool, true, false, if◌then◌else◌, List, [], ◌∷◌, codes, drop, length, min, Option, Some, None}
use Rattle.std.specs.List.{ends_with, starts_with}
use Rattle.ace_grammar.specs.Reasons.{is_digit}
use Rattle.ace_grammar.specs.declared.reason.Reason.{Reason}
use Rattle.ace_grammar.specs.declared.reason.Reason.TheVariants.{F1, F2, F3, F5, F7}
use Rattle.ace_grammar.specs.declared.shapes.Shape.{Shape}
use Rattle.ace_grammar.specs.declared.shapes.Shape.TheVariants as shape
use Rattle.ace_malformed.specs.Fields.{fields_of, shape_of}
use Rattle.ace_malformed.specs.Wrong.{Found, column_behind, first_empty, words_of, wrong_in}
use Rattle.ace_malformed.specs.Lines.{line_of}
use Rattle.ace_malformed.specs.declared.bad_line.BadLine.{BadLine}
use Rattle.ace_malformed.specs.declared.field.Field.{Field}

-- whether the bytes begin with these
abbrev pub begins_with : List ℕ → List ℕ → Bool
begins_with bytes front = starts_with (λ one other. one == other) bytes front

-- whether the last byte is a carriage return
abbrev pub ends_in_return : List ℕ → Bool
ends_in_return bytes = ends_with (λ one other. one == other) bytes (13 ∷ [])

-- whether a field has to be one of some words
abbrev pub is_word : Shape → Bool
is_word shape.ChannelWord = true
is_word shape.StateWord = true
is_word shape.OutcomeWord = true
is_word s = false

-- how many digits stand before the first byte that is none
unfoldable pub digits_before : List ℕ → ℕ
digits_before [] = 0
digits_before (byte ∷ bytes) = if is_digit byte then digits_before bytes + 1 else 0

-- how many letters of ports stand before the first byte that is none
unfoldable pub letters_before : List ℕ → ℕ
letters_before [] = 0
letters_before (byte ∷ bytes) =
    if byte == 65 || byte == 76 then letters_before bytes + 1 else 0

-- of a field with another character than it may have: where that stands, or else where the field
-- begins
abbrev pub character_column : Found → ℕ
character_column f =
    if is_word (shape_of f.field) then f.column else f.column + digits_before f.text

-- of a field that is wrong for a reason
abbrev pub found_column : Reason → Option Found → ℕ
found_column reason None = 1
found_column F5 (Some f) = character_column f
found_column reason (Some f) = f.column

-- of a line with a wrong number of fields: an empty one, or the first that is too many, or the end
abbrev pub or_behind : ℕ → Option ℕ → ℕ
or_behind column None = column
or_behind column (Some empty) = empty

abbrev pub count_column_of : ℕ → ℕ → Option (List Field) → List (List ℕ) → ℕ
count_column_of most column None texts = 1
count_column_of most column (Some fields) texts =
    or_behind (min (column_behind column fields texts) most) (first_empty column texts)

abbrev pub count_column_among : ℕ → ℕ → List (List ℕ) → ℕ
count_column_among version most [] = 1
count_column_among version most (word ∷ texts) =
    count_column_of most (length word + 2) (fields_of version word) texts

abbrev pub count_column : ℕ → List ℕ → ℕ
count_column version line = count_column_among version (length line + 1) (words_of line)

-- of a second header line: the first letter that is none of a port, or the first letter
abbrev pub letter_column : List ℕ → ℕ
letter_column letters =
    if letters_before letters == length letters then 7 else 7 + letters_before letters

abbrev pub header_column : List ℕ → ℕ
header_column line = if begins_with line (codes "PORTS ") then letter_column (drop 6 line) else 1

-- by the reason of a line that has its line feed
abbrev pub column_by : ℕ → List ℕ → Reason → ℕ
column_by version line F1 = length line + 1
column_by version line F2 = 1
column_by version line F3 = count_column version line
column_by version line F7 = header_column line
column_by version line reason = found_column reason (wrong_in version reason line)

-- where the line is wrong: at a carriage return at its end, or else by its reason
unfoldable pub column_of : BadLine → ℕ
column_of b =
    if ends_in_return (line_of b) then length (line_of b)
    else column_by b.version (line_of b) b.reason
