-- How a line of what is told of traces is painted, by how it begins.
use Rattle.std.specs.Prelude.{ℕ, ◌+◌, ◌==◌, ◌||◌, ◌&&◌, not, nat_le, Bool, List, [], ◌∷◌, codes, drop, length, min, if◌then◌else◌}
use Rattle.std.specs.List.{starts_with}
use Rattle.ace_terminal.specs.declared.looks.Colour.TheVariants.{Red, Blue}
use Rattle.ace_terminal.specs.declared.looks.Look.{Look}

-- whether the bytes begin with these
abbrev pub begins_with : List ℕ → List ℕ → Bool
begins_with bytes front = starts_with (λ one other. one == other) bytes front

-- how many bytes stand before the first place where the text goes on with the word, or before its
-- end where it does so nowhere
abbrev pub length_before : List ℕ → List ℕ → ℕ
length_before word [] = 0
length_before word (b ∷ rest) =
    if begins_with (b ∷ rest) word then 0 else length_before word rest + 1

-- a verdict on a trace that wasn't accepted
unfoldable pub is_verdict : List ℕ → Bool
is_verdict told =
    begins_with told (codes "refused event ") || begins_with told (codes "malformed ")
    || begins_with told (codes "unfinished: ")

-- a verdict goes up to what is wrong there: it has one colon and a space, and ends before the next
unfoldable pub verdict_length : List ℕ → ℕ
verdict_length told =
    let first = length_before (codes ": ") told in
    min (length told) (first + 2 + length_before (codes ": ") (drop (first + 2) told))

-- the name of a file, and of a place in it, ends at the first colon and space
unfoldable pub name_length : List ℕ → ℕ
name_length line = length_before (codes ": ") line

unfoldable pub behind_name : List ℕ → List ℕ
behind_name line = drop (name_length line + 2) line

-- a verdict behind a name; what begins with a brace is JSON
unfoldable pub has_verdict : List ℕ → Bool
has_verdict line = not (begins_with line (codes "{")) && is_verdict (behind_name line)

-- the word of `batch` for a trace that wasn't accepted
unfoldable pub has_failed : List ℕ → Bool
has_failed line =
    begins_with line (codes "FAIL  ") || begins_with line (codes "BAD   ")
    || begins_with line (codes "CUT   ") || begins_with line (codes "LIMIT ")
    || begins_with line (codes "ERROR ")

-- a gap behind a word, and how long that is
unfoldable pub word_length : List ℕ → ℕ
word_length line = length_before (codes "  ") line

-- the name of a rule or of a clause, as K12d
unfoldable pub is_rule : List ℕ → Bool
is_rule line = begins_with line (codes "K") && nat_le (word_length line) 4

-- the words that `explain` and `rule` have before what they tell
unfoldable pub is_part : List ℕ → Bool
is_part line =
    begins_with line (codes "expected  ") || begins_with line (codes "got  ")
    || begins_with line (codes "note  ") || begins_with line (codes "note: ")

unfoldable pub is_heading : List ℕ → Bool
is_heading line =
    begins_with line (codes "Before event ") || begins_with line (codes "What led here")
    || begins_with line (codes "in a design  ") || begins_with line (codes "in a recorder  ")

-- a label, two spaces behind the beginning of its line
unfoldable pub has_label : List ℕ → Bool
has_label line =
    begins_with line (codes "  ")
    && (is_rule (drop 2 line) || is_part (drop 2 line) || is_heading (drop 2 line))

-- a label ends at a gap, or at a colon and a space, or with its line
unfoldable pub label_length : List ℕ → ℕ
label_length line = min (word_length line) (name_length line)

-- how a line without a verdict is painted
unfoldable pub look_of_label : List ℕ → Look
look_of_label line =
    if has_failed line
    then record { bold = 0; plain = 0; coloured = length_before (codes " ") line; colour = Red }
    else (if is_rule line
    then record { bold = 0; plain = 0; coloured = word_length line; colour = Blue }
    else (if has_label line
    then record { bold = 0; plain = 2; coloured = label_length (drop 2 line); colour = Blue }
    else record { bold = 0; plain = 0; coloured = 0; colour = Blue }))

-- how the line is painted
unfoldable pub look_of : List ℕ → Look
look_of line =
    if is_verdict line
    then record { bold = 0; plain = 0; coloured = verdict_length line; colour = Red }
    else (if has_verdict line
    then record {
      bold = name_length line;
      plain = 2;
      coloured = verdict_length (behind_name line);
      colour = Red;
    }
    else look_of_label line)
