-- Why a line is malformed. Its fields are written and compared here, and never cut.
use Rattle.std.specs.Prelude.{◌≡◌, ◌≢◌, ℕ, ◌==◌, ◌||◌, Bool, nat_le, if◌then◌else◌, List, [], ◌∷◌, length, codes, Option, Some, None}
use Rattle.std.specs.Option.{is_some}
use Rattle.std.specs.List.{list_all, AllByRecursion, join_with_byte}
use Rattle.std.specs.Str.{bytes_eq}
use Rattle.ace_event.specs.Text.{port_digits}
use Rattle.ace_grammar.specs.declared.reason.Reason.{Reason}
use Rattle.ace_grammar.specs.declared.reason.Reason.TheVariants.{F1, F2, F3, F4, F5, F6, F7}
use Rattle.ace_grammar.specs.declared.shapes.Shape.{Shape}
use Rattle.ace_grammar.specs.declared.shapes.Shape.TheVariants.{Port, Digits, AtMost, SnoopResponse, ChannelWord, StateWord, OutcomeWord}
use Rattle.ace_grammar.specs.Fields.{digit_of, digits_onto, state_of, outcome_of}
use Rattle.ace_grammar.specs.Shapes.{shapes_of}

abbrev pub number_of_reason : Reason → ℕ
number_of_reason F1 = 1
number_of_reason F2 = 2
number_of_reason F3 = 3
number_of_reason F4 = 4
number_of_reason F5 = 5
number_of_reason F6 = 6
number_of_reason F7 = 7

-- the lesser of two reasons, where there are two
abbrev pub least : Option Reason → Option Reason → Option Reason
least None other = other
least (Some one) None = Some one
least (Some one) (Some other) =
    if nat_le (number_of_reason one) (number_of_reason other) then Some one else Some other

-- whether the byte is a lower-case hexadecimal digit
abbrev pub is_digit : ℕ → Bool
is_digit byte = is_some (digit_of byte)

-- of a field of so many digits
abbrev pub digits_reason : ℕ → List ℕ → Option Reason
digits_reason count field =
    if length field == count then (if list_all is_digit field then None else Some F5) else Some F4

-- of the number that the digits of a field make, where all its characters are digits
abbrev pub number_reason : ℕ → Option ℕ → Option Reason
number_reason most None = Some F5
number_reason most (Some number) = if nat_le number most then None else Some F6

-- of a field of so many digits, of a number that has a limit
abbrev pub limited_reason : ℕ → ℕ → List ℕ → Option Reason
limited_reason count most field =
    if length field == count then number_reason most (digits_onto 0 field) else Some F4

-- of a field that has to be one of some words
abbrev pub word_reason : Bool → Option Reason
word_reason is_known = if is_known then None else Some F5

-- the least reason of a field that applies, in a trace of a version
abbrev pub field_reason : ℕ → Shape → List ℕ → Option Reason
field_reason version Port field = digits_reason (port_digits version) field
field_reason version (Digits count) field = digits_reason count field
field_reason version (AtMost most) field = limited_reason 1 most field
field_reason version SnoopResponse field = limited_reason 2 0x1f field
field_reason version ChannelWord field =
    word_reason (bytes_eq field (codes "R") || bytes_eq field (codes "W"))
field_reason version StateWord field = word_reason (is_some (state_of field))
field_reason version OutcomeWord field = word_reason (is_some (outcome_of field))

-- the least reason of the fields behind a record word
unfoldable pub fields_reason : ℕ → List Shape → List (List ℕ) → Option Reason
fields_reason version [] [] = None
fields_reason version [] (field ∷ fields) = Some F3
fields_reason version (shape ∷ shapes) [] = Some F3
fields_reason version (shape ∷ shapes) (field ∷ fields) =
    least (field_reason version shape field) (fields_reason version shapes fields)

-- the same, with the shapes of a record word, where there is one
abbrev pub record_reason : ℕ → Option (List Shape) → List (List ℕ) → Option Reason
record_reason version None fields = Some F2
record_reason version (Some shapes) fields = fields_reason version shapes fields

-- the least reason of a line with these fields, the first of which has to be a record word of the
-- version
abbrev pub line_reason : ℕ → List (List ℕ) → Option Reason
line_reason version [] = Some F2
line_reason version (word ∷ fields) = record_reason version (shapes_of version word) fields

-- The fields of a line: it is these, one space between each two, and none in a field.
pub record AreFields (line : List ℕ) (fields : List (List ℕ)) : Type 0 where
  pub some_field : fields ≢ []
  pub joined : line ≡ join_with_byte 32 fields
  pub no_space : AllByRecursion (λ field. AllByRecursion (λ byte. byte ≢ 32) field) fields

-- A line, without its line feed, has this reason in a trace of a version.
abbrev pub HasReason : ℕ → List ℕ → Reason → Type 0
HasReason version line reason =
    (fields : List (List ℕ)) × AreFields line fields × (line_reason version fields ≡ Some reason)
