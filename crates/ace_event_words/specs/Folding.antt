-- Data, folded: what repeats is told once.
use Rattle.std.specs.Prelude.{ℕ, ◌++◌, ◌-◌, ◌/◌, ◌==◌, Bool, if◌then◌else◌, List, codes, decimal, drop, length, take}
use Rattle.std.specs.Str.{bytes_eq}
use Rattle.ace_event.specs.declared.event.Event.{Event}
use Rattle.ace_event.specs.declared.event.Event.TheVariants.{R, W, Cd, L, M, D, Mem}

-- each so many digits are those before them
abbrev pub repeats : ℕ → List ℕ → Bool
repeats size digits = bytes_eq (drop size digits) (take (length digits - size) digits)

-- these digits, and how often they stand there
unfoldable pub times_text : ℕ → List ℕ → List ℕ
times_text size digits = take size digits ++ codes " x " ++ decimal (length digits / size)

-- the 32 digits of a word, eight at a time
unfoldable pub in_eights : List ℕ → List ℕ
in_eights digits =
    take 8 digits ++ codes " " ++ take 8 (drop 8 digits) ++ codes " "
    ++ take 8 (drop 16 digits) ++ codes " " ++ drop 24 digits

-- the first eight bytes of a line, and its last four
unfoldable pub ends : List ℕ → List ℕ
ends digits = take 16 digits ++ codes ".." ++ drop (length digits - 8) digits

-- the digits of a word or a line: a byte, or four bytes, that repeat; else those of a word, and the
-- ends of a line
unfoldable pub folded : List ℕ → List ℕ
folded digits =
    if repeats 2 digits then times_text 2 digits
    else (if repeats 8 digits then times_text 8 digits
    else (if length digits == 32 then in_eights digits else ends digits))

-- how many digits the data of the event have, which stand last in its text
abbrev pub data_digits : Event → ℕ
data_digits (R p id resp last word) = 32
data_digits (W p strb last word) = 32
data_digits (Cd p last word) = 32
data_digits (L p addr w x word) = 32
data_digits (M p chan id line) = 128
data_digits (D p addr strobe x line) = 128
data_digits (Mem addr line) = 128
data_digits _ = 0

-- a text that ends with so many digits of data, which are folded
unfoldable pub with_data : ℕ → List ℕ → List ℕ
with_data digits text =
    take (length text - digits) text ++ codes "{" ++ folded (drop (length text - digits) text)
    ++ codes "}"

-- the text of the event, with its data folded
abbrev pub folded_text : Event → List ℕ → List ℕ
folded_text e text = if data_digits e == 0 then text else with_data (data_digits e) text
