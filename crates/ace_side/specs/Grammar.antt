-- What the fields of a line can be.
use Rattle.std.specs.Prelude.{◌≡◌, ◌<◌, ◌≤◌, ◌^◌, ◌-◌, ◌%◌, ◌⊎◌, ℕ, Bool, true, not, ◌==◌, ◌&&◌, nat_le, List, length, slice_index}
use Rattle.std.specs.List.{list_all}
use Rattle.ace_side.specs.declared.line.Digits.{Digits}
use Rattle.ace_side.specs.declared.line.SideLine.{SideLine}
use Rattle.ace_side.specs.declared.line.SideLine.TheVariants.{TimeUnit, Port, Addr, Time, Id, Note, Word, End, Broken, Cut}

-- whether the byte is printable ASCII: a space or a character that shows
abbrev pub is_printable : ℕ → Bool
is_printable byte = nat_le 32 byte && nat_le byte 126

-- whether it is one that shows
abbrev pub is_visible : ℕ → Bool
is_visible byte = nat_le 33 byte && nat_le byte 126

-- the unit of times: 1 to 16 characters that show
abbrev pub is_unit : List ℕ → Bool
is_unit word = nat_le 1 (length word) && nat_le (length word) 16 && list_all is_visible word

-- the name of a port: 1 to 64 printable bytes, of which neither the first nor the last is a space
abbrev pub is_name : List ℕ → Bool
is_name name =
    nat_le 1 (length name) && nat_le (length name) 64 && list_all is_printable name
    && not (slice_index name 0 == 32) && not (slice_index name (length name - 1) == 32)

-- the text of a note
abbrev pub is_note : List ℕ → Bool
is_note text = list_all is_printable text

-- a number of 1 to so many hexadecimal digits, as it is written
abbrev pub AreDigits : ℕ → Digits → Type 0
AreDigits most d = (1 ≤ d.count) × (d.count ≤ most) × (d.value < 16 ^ d.count)

-- a real address of a line: up to 16 digits without leading zeros, a multiple of 64
abbrev pub IsReal : Digits → Type 0
IsReal d = AreDigits 16 d × ((d.count ≡ 1) ⊎ (16 ^ (d.count - 1) ≤ d.value)) × (d.value % 64 ≡ 0)

-- The line is one of a side file: its fields have their forms.
abbrev pub Fits : SideLine → Type 0
Fits (TimeUnit word) = is_unit word ≡ true
Fits (Port port name) = (port < 256) × (is_name name ≡ true)
Fits (Addr addr real) = (addr < 2 ^ 32) × (addr % 64 ≡ 0) × IsReal real
Fits (Time event time) = (event < 2 ^ 64) × (time < 2 ^ 64)
Fits (Id event id) = (event < 2 ^ 64) × AreDigits 8 id
Fits (Note event text) = (event < 2 ^ 64) × (is_note text ≡ true)
Fits (Word word real) = (word < 2 ^ 32) × AreDigits 16 real
Fits (End count) = count < 2 ^ 64
Fits (Broken count) = count < 2 ^ 64
Fits (Cut count) = count < 2 ^ 64
