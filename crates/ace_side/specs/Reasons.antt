-- Why a line is malformed, by itself.
use Rattle.std.specs.Prelude.{◌≡◌, ℕ, ◌==◌, Bool, nat_le, if◌then◌else◌, List, [], ◌∷◌, length, codes, Option, Some, None}
use Rattle.std.specs.List.{slice_split}
use Rattle.std.specs.Map.{lookup}
use Rattle.std.specs.Str.{bytes_eq}
use Rattle.ace_side.specs.declared.kind.LineKind.{LineKind}
use Rattle.ace_side.specs.declared.kind.LineKind.TheVariants.{TimeUnit, Port, Addr, Time, Id, Note, Word, End, Broken, Cut}
use Rattle.ace_side.specs.declared.line.SideLine.{SideLine}
use Rattle.ace_side.specs.declared.reason.Reason.{Reason}
use Rattle.ace_side.specs.declared.reason.Reason.TheVariants.{S1, S2, S3, S4, S5, S6}
use Rattle.ace_side.specs.Text.{side_text}
use Rattle.ace_side.specs.Grammar.{Fits}

abbrev pub number_of_reason : Reason → ℕ
number_of_reason S1 = 1
number_of_reason S2 = 2
number_of_reason S3 = 3
number_of_reason S4 = 4
number_of_reason S5 = 5
number_of_reason S6 = 6

-- the words of last lines, and those of all
abbrev pub last_words : List (List ℕ × LineKind)
last_words = (codes "END", End) ∷ (codes "BROKEN", Broken) ∷ (codes "CUT", Cut) ∷ []

abbrev pub words : List (List ℕ × LineKind)
words =
    (codes "T", Time) ∷ (codes "ID", Id) ∷ (codes "NOTE", Note) ∷ (codes "ADDR", Addr)
    ∷ (codes "WORD", Word) ∷ (codes "PORT", Port)
    ∷ (codes "UNIT", TimeUnit) ∷ last_words

-- whether so many fields stand behind the word; a name and a text, which may hold spaces, are one
-- or more
abbrev pub has_count : LineKind → ℕ → Bool
has_count Time count = count == 2
has_count Id count = count == 2
has_count Note count = nat_le 2 count
has_count Addr count = count == 2
has_count Word count = count == 2
has_count Port count = nat_le 2 count
has_count _ count = count == 1

-- why a line is the text of none, by its word and the fields behind it: no such word, another
-- number of fields, or else a field of another form
abbrev pub reason_behind : Option LineKind → List (List ℕ) → Reason
reason_behind None fields = S2
reason_behind (Some kind) fields = if has_count kind (length fields) then S4 else S3

abbrev pub form_reason : List (List ℕ) → Reason
form_reason [] = S2
form_reason (word ∷ fields) = reason_behind (lookup (bytes_eq word) words) fields

-- The bytes are the text of this line, without its line feed.
abbrev pub IsTextOf : SideLine → List ℕ → Type 0
IsTextOf line bytes = Fits line × (side_text line ≡ bytes)

-- They are the text of no line, for this reason.
abbrev pub IsNoLine : List ℕ → Reason → Type 0
IsNoLine bytes reason =
    ((line : SideLine) → ¬ IsTextOf line bytes)
    × (reason ≡ form_reason (slice_split (λ byte. byte == 32) bytes))
