-- What is wrong in a malformed line, and what may stand there.
use Rattle.std.specs.Prelude.{ℕ, ◌==◌, ◌&&◌, nat_le, Bool, if◌then◌else◌, List, [], ◌∷◌, ◌++◌, codes, decimal, drop, length, map, take, Option, Some, None}
use Rattle.std.specs.List.{count_by}
use Rattle.std.specs.Option.{is_some}
use Rattle.std.specs.Str.{bytes_eq}
use Rattle.ace_event.specs.Text.{port_digits}
use Rattle.ace_grammar.specs.declared.reason.Reason.{Reason}
use Rattle.ace_grammar.specs.declared.reason.Reason.TheVariants.{F1, F2, F3, F4, F5, F7}
use Rattle.ace_grammar.specs.declared.shapes.Shape.{Shape}
use Rattle.ace_grammar.specs.declared.shapes.Shape.TheVariants.{Port, Digits, AtMost, SnoopResponse, ChannelWord, StateWord, OutcomeWord}
use Rattle.ace_malformed.specs.Fields.{field_name, fields_of, shape_of}
use Rattle.ace_malformed.specs.Places.{begins_with, digits_before, ends_in_return, is_word, letters_before}
use Rattle.ace_malformed.specs.Wrong.{Found, first_empty, words_of, wrong_in}
use Rattle.ace_malformed.specs.Lines.{line_of}
use Rattle.ace_malformed.specs.declared.bad_line.BadLine.{BadLine}
use Rattle.ace_malformed.specs.declared.field.Field.{Field}

-- a byte as it is shown: itself where it is a character of ASCII that takes a column, or else `?`
abbrev pub shown_byte : ℕ → ℕ
shown_byte byte = if nat_le 32 byte && nat_le byte 126 then byte else 63

unfoldable pub shown : List ℕ → List ℕ
shown bytes = map shown_byte bytes

unfoldable pub quoted : List ℕ → List ℕ
quoted bytes = codes "'" ++ shown bytes ++ codes "'"

-- so many digits
abbrev pub digits_word : ℕ → List ℕ
digits_word count = if count == 1 then codes " digit" else codes " digits"

unfoldable pub digits_text : ℕ → List ℕ
digits_text count = decimal count ++ digits_word count

-- the record word of a line
abbrev pub first_of : List (List ℕ) → List ℕ
first_of [] = []
first_of (word ∷ texts) = word

unfoldable pub word_of : List ℕ → List ℕ
word_of line = first_of (words_of line)

-- ---- what is wrong

-- a line without its line feed
abbrev pub no_end : List ℕ → List ℕ
no_end line =
    if length line == 0 then codes "the input ends before this line"
    else (if length line == 256 then codes "no line feed stands among 256 bytes"
    else codes "the last line has no line feed: the recording was cut off here")

-- a line that begins with no record word; a recorder that stops says why behind its name
unfoldable pub is_recorder : List ℕ → Bool
is_recorder line = begins_with line (codes "ace_recorder: ")

unfoldable pub stopped_words : List ℕ
stopped_words = codes "the recorder stopped here:"

unfoldable pub recorder_stopped : List ℕ → List ℕ
recorder_stopped line = stopped_words ++ shown (drop 13 line)

unfoldable pub no_record : List ℕ → List ℕ
no_record line =
    if is_recorder line then recorder_stopped line
    else (if bytes_eq (word_of line) (codes "MEM") then codes "'MEM' is no record of version 1"
    else quoted (take 12 (word_of line)) ++ codes " is no record")

-- a wrong number of fields
abbrev pub empty_part : Bool → List ℕ
empty_part is_empty = if is_empty then codes ": a space too many" else []

unfoldable pub fields_here : List ℕ → List ℕ
fields_here line =
    decimal (count_by (λ byte. byte == 32) line)
    ++ empty_part (is_some (first_empty 0 (drop 1 (words_of line))))

unfoldable pub word_part : List ℕ → List ℕ
word_part line = word_of line ++ codes " has "

unfoldable pub fields_due : ℕ → List ℕ
fields_due count = decimal count ++ codes " fields, and here are "

abbrev pub count_sentence : List ℕ → Option (List Field) → List ℕ
count_sentence line None = []
count_sentence line (Some fields) =
    word_part line ++ fields_due (length fields) ++ fields_here line

-- a field of another length, with another character, or with a number out of its range
unfoldable pub field_part : Field → List ℕ
field_part field = codes "field " ++ field_name field

unfoldable pub length_sentence : Found → List ℕ
length_sentence f = field_part f.field ++ codes " has " ++ digits_text (length f.text)

unfoldable pub other_word : List ℕ → List ℕ
other_word text = quoted text ++ codes " isn't one of its words"

unfoldable pub other_digit : List ℕ → List ℕ
other_digit text =
    quoted (take 1 (drop (digits_before text) text)) ++ codes " is no lower-case hexadecimal digit"

unfoldable pub other_character : Field → List ℕ → List ℕ
other_character field text = if is_word (shape_of field) then other_word text else other_digit text

unfoldable pub character_sentence : Found → List ℕ
character_sentence f = field_part f.field ++ codes ": " ++ other_character f.field f.text

unfoldable pub range_sentence : Found → List ℕ
range_sentence f = field_part f.field ++ codes " is " ++ shown f.text

abbrev pub found_sentence : Reason → Option Found → List ℕ
found_sentence reason None = []
found_sentence F4 (Some f) = length_sentence f
found_sentence F5 (Some f) = character_sentence f
found_sentence reason (Some f) = range_sentence f

-- a header line
unfoldable pub letters_sentence : List ℕ → List ℕ
letters_sentence letters =
    if length letters == 0 then codes "no port has a letter"
    else (if letters_before letters == length letters then codes "too many ports of a kind"
    else quoted (take 1 (drop (letters_before letters) letters)) ++ codes " is no kind of port")

unfoldable pub header_sentence : ℕ → List ℕ → List ℕ
header_sentence number line =
    if number == 1 then quoted (take 12 line) ++ codes " names no version"
    else (if begins_with line (codes "PORTS ") then letters_sentence (drop 6 line)
    else quoted (take 12 line) ++ codes " names no ports")

-- by its reason; a carriage return at its end comes first
abbrev pub sentence_by : BadLine → Reason → List ℕ
sentence_by b F1 = no_end (line_of b)
sentence_by b F2 = no_record (line_of b)
sentence_by b F3 = count_sentence (line_of b) (fields_of b.version (word_of (line_of b)))
sentence_by b F7 = header_sentence b.number (line_of b)
sentence_by b reason = found_sentence reason (wrong_in b.version reason (line_of b))

unfoldable pub wrong_sentence : BadLine → List ℕ
wrong_sentence b =
    if ends_in_return (line_of b) then codes "a carriage return: the file has DOS line ends"
    else sentence_by b b.reason

-- ---- what may stand there

abbrev pub end_expected : ℕ → List ℕ → List ℕ
end_expected number line =
    if length line == 0 then codes "a header line"
    else (if length line == 256 then codes "a line feed within 256 bytes" else codes "a line feed")

abbrev pub record_words : ℕ → List ℕ
record_words version =
    if version == 1 then codes "one of AR R RK AW W B WK AC CR CD G M S L D OP"
    else codes "one of AR R RK AW W B WK AC CR CD G M S L D OP MEM"

unfoldable pub record_expected : ℕ → List ℕ → List ℕ
record_expected version line = if is_recorder line then [] else record_words version

-- a record word, and what its fields are called
unfoldable pub names_text : List Field → List ℕ
names_text [] = []
names_text (field ∷ fields) = codes " " ++ field_name field ++ names_text fields

abbrev pub count_expected : List ℕ → Option (List Field) → List ℕ
count_expected line None = []
count_expected line (Some fields) = word_of line ++ names_text fields

-- how many digits a field has that has some
abbrev pub digits_of : ℕ → Shape → ℕ
digits_of version Port = port_digits version
digits_of version (Digits count) = count
digits_of version SnoopResponse = 2
digits_of version s = 1

abbrev pub characters_expected : Shape → List ℕ
characters_expected ChannelWord = codes "one of R W"
characters_expected StateWord = codes "one of I UC UD SC SD"
characters_expected OutcomeWord = codes "one of ok skip fail"
characters_expected s = codes "digits 0 to 9 and a to f"

abbrev pub range_expected : Shape → List ℕ
range_expected (AtMost most) = codes "at most " ++ decimal most
range_expected s = codes "at most 1f"

abbrev pub found_expected : ℕ → Reason → Option Found → List ℕ
found_expected version reason None = []
found_expected version F4 (Some f) = digits_text (digits_of version (shape_of f.field))
found_expected version F5 (Some f) = characters_expected (shape_of f.field)
found_expected version reason (Some f) = range_expected (shape_of f.field)

abbrev pub header_expected : ℕ → ℕ → List ℕ
header_expected version number =
    if number == 1 then codes "ACE 1 or ACE 2"
    else codes "PORTS and a letter A or L for each port, at most "
    ++ (if version == 1 then codes "8 of a kind" else codes "16 of a kind")

abbrev pub expected_by : BadLine → Reason → List ℕ
expected_by b F1 = end_expected b.number (line_of b)
expected_by b F2 = record_expected b.version (line_of b)
expected_by b F3 = count_expected (line_of b) (fields_of b.version (word_of (line_of b)))
expected_by b F7 = header_expected b.version b.number
expected_by b reason = found_expected b.version reason (wrong_in b.version reason (line_of b))

unfoldable pub expected : BadLine → List ℕ
expected b =
    if ends_in_return (line_of b) then codes "a line feed alone" else expected_by b b.reason
