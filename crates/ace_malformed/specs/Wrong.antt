-- Which field of a malformed line is wrong, and where. Columns count bytes, from 1.
use Rattle.std.specs.Prelude.{⊤, ℕ, ◌+◌, ◌==◌, Bool, false, if◌then◌else◌, List, [], ◌∷◌, length, Option, Some, None}
use Rattle.std.specs.List.{slice_split}
use Rattle.ace_grammar.specs.Reasons.{field_reason, number_of_reason}
use Rattle.ace_grammar.specs.declared.reason.Reason.{Reason}
use Rattle.ace_grammar.specs.declared.reason.Reason.TheVariants.{F4, F5, F6}
use Rattle.ace_malformed.specs.Fields.{fields_of, shape_of}
use Rattle.ace_malformed.specs.declared.field.Field.{Field}
use Rattle.ace_malformed.specs.declared.wrong_field.WrongField.{WrongField}

-- A field of a line: the column where it begins, which field it is, and what stands there.
pub record Found : Type 0 where
  pub column : ℕ
  pub field : Field
  pub text : List ℕ

abbrev pub found_of : WrongField → Found
found_of w = record { column = w.column; field = w.field; text = w.text.now }

-- the fields of a line, and first its record word
abbrev pub words_of : List ℕ → List (List ℕ)
words_of line = slice_split (λ byte. byte == 32) line

-- whether this is the reason
abbrev pub is_reason : Reason → Option Reason → Bool
is_reason reason None = false
is_reason reason (Some other) = number_of_reason other == number_of_reason reason

-- a reason that a field of a line can have
abbrev pub IsOfField : Reason → Type 0
IsOfField F4 = ⊤
IsOfField F5 = ⊤
IsOfField F6 = ⊤
IsOfField reason = ⊥

-- the first of these fields of which this is the reason, where they begin at a column
unfoldable pub first_wrong : ℕ → Reason → ℕ → List Field → List (List ℕ) → Option Found
first_wrong version reason column [] texts = None
first_wrong version reason column (field ∷ fields) [] = None
first_wrong version reason column (field ∷ fields) (text ∷ texts) =
    if is_reason reason (field_reason version (shape_of field) text)
    then Some (record { column = column; field = field; text = text })
    else first_wrong version reason (column + length text + 1) fields texts

-- the first of them that is empty
unfoldable pub first_empty : ℕ → List (List ℕ) → Option ℕ
first_empty column [] = None
first_empty column (text ∷ texts) =
    if length text == 0 then Some column else first_empty (column + length text + 1) texts

-- where the field begins that is one too many, or would begin if it weren't missing
unfoldable pub column_behind : ℕ → List Field → List (List ℕ) → ℕ
column_behind column [] texts = column
column_behind column (field ∷ fields) [] = column
column_behind column (field ∷ fields) (text ∷ texts) =
    column_behind (column + length text + 1) fields texts

-- behind a record word, which has these fields
abbrev pub wrong_behind : ℕ → Reason → ℕ → Option (List Field) → List (List ℕ) → Option Found
wrong_behind version reason column None texts = None
wrong_behind version reason column (Some fields) texts =
    first_wrong version reason column fields texts

abbrev pub wrong_among : ℕ → Reason → List (List ℕ) → Option Found
wrong_among version reason [] = None
wrong_among version reason (word ∷ texts) =
    wrong_behind version reason (length word + 2) (fields_of version word) texts

-- the first field of a line of which this is the reason
abbrev pub wrong_in : ℕ → Reason → List ℕ → Option Found
wrong_in version reason line = wrong_among version reason (words_of line)
