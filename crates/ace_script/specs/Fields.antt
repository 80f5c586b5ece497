-- What the fields of a line are read as: each as a value, or as the least reason why it has none.
use Rattle.std.specs.Prelude.{ℕ, ◌==◌, Bool, nat_le, nat_lt, if◌then◌else◌, List, [], ◌∷◌, codes, length, take, drop, Option, Some, None, Result, Ok, Err}
use Rattle.std.specs.Str.{bytes_eq}
use Rattle.ace_codes.specs.declared.kind.ArKind.{ArKind}
use Rattle.ace_codes.specs.declared.kind.ArKind.TheVariants as read
use Rattle.ace_event.specs.declared.line.Line.{Line}
use Rattle.ace_event.specs.declared.header.Header.{Header}
use Rattle.ace_grammar.specs.Fields.{digits_onto}
use Rattle.ace_model.specs.AddressRules.{is_aligned}
use Rattle.ace_model.specs.Plans.{is_word_number, is_lone_word, is_whole_sync_word, is_first_word}
use Rattle.ace_script.specs.declared.reason.Reason.{Reason}
use Rattle.ace_script.specs.declared.reason.Reason.TheVariants.{P1, P2, P3, P4, P5, P6, P7, P8}

abbrev pub number_of_reason : Reason → ℕ
number_of_reason P1 = 1
number_of_reason P2 = 2
number_of_reason P3 = 3
number_of_reason P4 = 4
number_of_reason P5 = 5
number_of_reason P6 = 6
number_of_reason P7 = 7
number_of_reason P8 = 8

-- the lesser of two reasons
abbrev pub lesser : Reason → Reason → Reason
lesser one other = if nat_le (number_of_reason one) (number_of_reason other) then one else other

-- two values, or the least reason why there aren't both
abbrev pub both : {A B : Type 0} → Result A Reason → Result B Reason → Result (A × B) Reason
both (Ok a) (Ok b) = Ok (a, b)
both (Ok a) (Err why) = Err why
both (Err why) (Ok b) = Err why
both (Err why) (Err other) = Err (lesser why other)

-- what is made of a value
abbrev pub made : {A B : Type 0} → (A → B) → Result A Reason → Result B Reason
made make (Ok a) = Ok (make a)
made make (Err why) = Err why

-- ---- numbers

-- the number that the digits make, if all are digits
abbrev pub number_in : Option ℕ → Result ℕ Reason
number_in None = Err P5
number_in (Some number) = Ok number

-- a number of so many lower-case hexadecimal digits
unfoldable pub number_of : ℕ → List ℕ → Result ℕ Reason
number_of count field = if length field == count then number_in (digits_onto 0 field) else Err P4

-- the number, if it is in its range
abbrev pub if_in : (ℕ → Bool) → Result ℕ Reason → Result ℕ Reason
if_in is_in (Ok number) = if is_in number then Ok number else Err P6
if_in is_in (Err why) = Err why

-- a port of the header
abbrev pub port_of : Header → List ℕ → Result ℕ Reason
port_of h field = if_in (λ p. nat_lt p h.ports) (number_of 1 field)

-- the address of a line
abbrev pub address_of : List ℕ → Result ℕ Reason
address_of field = if_in is_aligned (number_of 8 field)

-- the number of a word of a line
abbrev pub place_of : List ℕ → Result ℕ Reason
place_of field = if_in is_word_number (number_of 1 field)

abbrev pub word_of : List ℕ → Result ℕ Reason
word_of field = number_of 32 field

abbrev pub strobe_of : List ℕ → Result ℕ Reason
strobe_of field = number_of 16 field

-- the word of a DVM message of one part, of a Sync, of the first part of two, and of the second
-- part
abbrev pub lone_word_of : List ℕ → Result ℕ Reason
lone_word_of field = if_in is_lone_word (number_of 8 field)

abbrev pub sync_word_of : List ℕ → Result ℕ Reason
sync_word_of field = if_in is_whole_sync_word (number_of 8 field)

abbrev pub first_word_of : List ℕ → Result ℕ Reason
first_word_of field = if_in is_first_word (number_of 8 field)

abbrev pub second_word_of : List ℕ → Result ℕ Reason
second_word_of field = number_of 8 field

-- ---- lines and letters

-- the line of four words, if all are there
abbrev pub line_in : Option ℕ → Option ℕ → Option ℕ → Option ℕ → Result Line Reason
line_in (Some a) (Some b) (Some c) (Some d) = Ok (record { words = a ∷ b ∷ c ∷ d ∷ [] })
line_in _ _ _ _ = Err P5

-- the number of 32 digits that stand behind so many others
abbrev pub word_behind : ℕ → List ℕ → Option ℕ
word_behind count field = digits_onto 0 (take 32 (drop count field))

-- a cache line: 128 digits, 32 for each word
unfoldable pub line_of : List ℕ → Result Line Reason
line_of field =
    if length field == 128
    then line_in (word_behind 0 field) (word_behind 32 field) (word_behind 64 field)
    (word_behind 96 field)
    else Err P4

-- the letter of a read ahead
unfoldable pub fetch_of : List ℕ → Result ArKind Reason
fetch_of field =
    if bytes_eq field (codes "s") then Ok read.ReadShared
    else (if bytes_eq field (codes "c") then Ok read.ReadClean
    else (if bytes_eq field (codes "n") then Ok read.ReadNotSharedDirty
    else (if bytes_eq field (codes "u") then Ok read.ReadUnique else Err P5)))

-- ---- fields by their number

-- exactly one field, exactly two, exactly three
abbrev pub alone : List (List ℕ) → Option (List ℕ)
alone (a ∷ []) = Some a
alone _ = None

abbrev pub pair : List (List ℕ) → Option (List ℕ × List ℕ)
pair (a ∷ b ∷ []) = Some (a, b)
pair _ = None

abbrev pub triple : List (List ℕ) → Option (List ℕ × (List ℕ × List ℕ))
triple (a ∷ b ∷ c ∷ []) = Some (a, (b, c))
triple _ = None

-- what fields are read as, where there are as many as there have to be
abbrev pub of_fields : {F A : Type 0} → (F → Result A Reason) → Option F → Result A Reason
of_fields read None = Err P3
of_fields read (Some fields) = read fields

abbrev pub no_field : List (List ℕ) → Result (Unit {0}) Reason
no_field [] = Ok tt
no_field (a ∷ fields) = Err P3

abbrev pub one_field : {A : Type 0} → (List ℕ → Result A Reason) → List (List ℕ) → Result A Reason
one_field f fields = of_fields f (alone fields)

abbrev pub two_fields : {A B : Type 0} → (List ℕ → Result A Reason)
    → (List ℕ → Result B Reason) → List (List ℕ) → Result (A × B) Reason
two_fields f g fields = of_fields (λ x. both (f x.0) (g x.1)) (pair fields)

abbrev pub three_fields : {A B C : Type 0} → (List ℕ → Result A Reason)
    → (List ℕ → Result B Reason) → (List ℕ → Result C Reason)
    → List (List ℕ) → Result (A × (B × C)) Reason
three_fields f g h fields = of_fields (λ x. both (f x.0) (both (g x.1.0) (h x.1.1))) (triple fields)
