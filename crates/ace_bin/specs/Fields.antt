-- The fields of a record: their bytes, and the numbers that they have.
use Rattle.std.specs.Prelude.{ℕ, ◌+◌, ◌*◌, ◌^◌, ◌&&◌, Bool, true, false, nat_lt, nat_le, List, [], ◌∷◌, ◌++◌, take, drop}
use Rattle.std.specs.Int.{bytes_high_first}
use Rattle.ace_event.specs.Text.{port_digits}

-- so many bytes of a number, the most significant first
unfoldable pub number_bytes : ℕ → ℕ → List ℕ
number_bytes count number = bytes_high_first count number

-- a number, once these bytes are put behind it
unfoldable pub number_onto : ℕ → List ℕ → ℕ
number_onto number [] = number
number_onto number (byte ∷ bytes) = number_onto (number * 256 + byte) bytes

-- the number of so many bytes, from a place on
unfoldable pub number_at : ℕ → ℕ → List ℕ → ℕ
number_at count place bytes = number_onto 0 (take count (drop place bytes))

-- A field: a port, a number of one byte that has a limit, or any number of so many bytes.
pub data Field : Type 0 where
  Port : Field
  AtMost : ℕ → Field
  Bytes : ℕ → Field

-- how many bytes a field has
abbrev pub size_of : Field → ℕ
size_of Port = 1
size_of (AtMost most) = 1
size_of (Bytes count) = count

-- how many bytes these fields have
abbrev pub size_of_all : List Field → ℕ
size_of_all [] = 0
size_of_all (field ∷ fields) = size_of field + size_of_all fields

-- whether a field may have the number, in a trace of a version
abbrev pub fits : ℕ → Field → ℕ → Bool
fits version Port number = nat_lt number (16 ^ port_digits version)
fits version (AtMost most) number = nat_le number most
fits version (Bytes count) number = true

-- whether each of these fields may have its number
abbrev pub all_fit : ℕ → List Field → List ℕ → Bool
all_fit version [] numbers = true
all_fit version (field ∷ fields) [] = false
all_fit version (field ∷ fields) (number ∷ numbers) =
    fits version field number && all_fit version fields numbers

-- written: the bytes of these fields, each with its number
abbrev pub fields_bytes : List Field → List ℕ → List ℕ
fields_bytes [] numbers = []
fields_bytes (field ∷ fields) [] = []
fields_bytes (field ∷ fields) (number ∷ numbers) =
    number_bytes (size_of field) number ++ fields_bytes fields numbers

-- read: the numbers that these fields have in the bytes, from a place on
abbrev pub numbers_at : List Field → ℕ → List ℕ → List ℕ
numbers_at [] place bytes = []
numbers_at (field ∷ fields) place bytes =
    number_at (size_of field) place bytes ∷ numbers_at fields (place + size_of field) bytes
