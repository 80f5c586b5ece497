-- What the reader takes from the front of a line, field by field. Each field comes with the space
-- before it.
use Rattle.std.specs.Prelude.{ℕ, ◌+◌, ◌-◌, ◌*◌, ◌^◌, ◌==◌, ◌&&◌, Bool, nat_lt, nat_le, if◌then◌else◌, List, [], ◌∷◌, length, take, drop, codes, Option, Some, None}
use Rattle.std.specs.Option.{option_and_then, option_map}
use Rattle.std.specs.Str.{bytes_eq}
use Rattle.ace_codes.specs.declared.state.LineState.{LineState}
use Rattle.ace_codes.specs.declared.state.LineState.TheVariants.{I, UC, UD, SC, SD}
use Rattle.ace_event.specs.declared.line.Line.{Line}
use Rattle.ace_event.specs.declared.event.Channel.{Channel}
use Rattle.ace_event.specs.declared.event.Channel.TheVariants.{Read, Write}
use Rattle.ace_event.specs.declared.event.Outcome.{Outcome}
use Rattle.ace_event.specs.declared.event.Outcome.TheVariants.{Ok, Skip, Fail}

-- what takes a value from the front of the bytes, where one stands there, and leaves the bytes
-- after it
abbrev pub Taker : Type 0 → Type 0
Taker A = List ℕ → Option (A × List ℕ)

-- the value of a lower-case hexadecimal digit
abbrev pub digit_of : ℕ → Option ℕ
digit_of byte =
    if nat_le 48 byte && nat_le byte 57
    then Some (byte - 48)
    else (if nat_le 97 byte && nat_le byte 102 then Some (byte - 87) else None)

-- a number, once these digits are put behind it
unfoldable pub digits_onto : ℕ → List ℕ → Option ℕ
digits_onto number [] = Some number
digits_onto number (byte ∷ bytes) =
    option_and_then (λ digit. digits_onto (number * 16 + digit) bytes) (digit_of byte)

-- the bytes after a space
unfoldable pub space_at : List ℕ → Option (List ℕ)
space_at [] = None
space_at (byte ∷ bytes) = if byte == 32 then Some bytes else None

-- so many digits, of a number that isn't above the most
unfoldable pub digits_at : ℕ → ℕ → Taker ℕ
digits_at count most bytes =
    if nat_lt (length bytes) count
    then None
    else option_and_then (λ number. if nat_le number most then Some (number, drop count bytes)
    else None) (digits_onto 0 (take count bytes))

unfoldable pub number_at : ℕ → ℕ → Taker ℕ
number_at count most bytes = option_and_then (digits_at count most) (space_at bytes)

-- a port, in a trace of a version
unfoldable pub port_at : ℕ → Taker ℕ
port_at version bytes = if version == 1 then number_at 1 15 bytes else number_at 2 0xff bytes

unfoldable pub flag_at : Taker Bool
flag_at bytes = option_map (λ bit. (bit.0 == 1, bit.1)) (number_at 1 1 bytes)

abbrev pub channel_of : ℕ → Option Channel
channel_of byte = if byte == 82 then Some Read else (if byte == 87 then Some Write else None)

unfoldable pub letter_at : Taker Channel
letter_at [] = None
letter_at (byte ∷ bytes) = option_map (λ channel. (channel, bytes)) (channel_of byte)

unfoldable pub channel_at : Taker Channel
channel_at bytes = option_and_then letter_at (space_at bytes)

-- a state: all of the bytes
abbrev pub state_of : List ℕ → Option LineState
state_of bytes =
    if bytes_eq bytes (codes "I") then Some I
    else (if bytes_eq bytes (codes "UC") then Some UC
    else (if bytes_eq bytes (codes "UD") then Some UD
    else (if bytes_eq bytes (codes "SC") then Some SC
    else (if bytes_eq bytes (codes "SD") then Some SD else None))))

unfoldable pub state_at : List ℕ → Option LineState
state_at bytes = option_and_then state_of (space_at bytes)

-- how an operation retired: all of the bytes
abbrev pub outcome_of : List ℕ → Option Outcome
outcome_of bytes =
    if bytes_eq bytes (codes "ok") then Some Ok
    else (if bytes_eq bytes (codes "skip") then Some Skip
    else (if bytes_eq bytes (codes "fail") then Some Fail else None))

unfoldable pub outcome_at : List ℕ → Option Outcome
outcome_at bytes = option_and_then outcome_of (space_at bytes)

-- the value, where no bytes are left
abbrev pub ended : {A : Type 0} → A → List ℕ → Option A
ended value [] = Some value
ended value (byte ∷ bytes) = None

-- a value that all of the bytes make
abbrev pub whole : {A : Type 0} → Taker A → List ℕ → Option A
whole take_first bytes = option_and_then (λ first. ended first.0 first.1) (take_first bytes)

-- a field, and what the bytes after it make
infixr 10 ◌▹◌
abbrev pub ◌▹◌ : {A B : Type 0} → Taker A → (List ℕ → Option B) → List ℕ → Option (A × B)
(take_first ▹ read_rest) bytes =
    option_and_then (λ first. option_map (λ rest. (first.0, rest)) (read_rest first.1))
    (take_first bytes)

-- the four words of a cache line
abbrev pub LineWords : Type 0
LineWords = ℕ × (ℕ × (ℕ × ℕ))

abbrev pub line_of : LineWords → Line
line_of f = record { words = f.0 ∷ f.1.0 ∷ f.1.1.0 ∷ f.1.1.1 ∷ [] }

-- a cache line: all of the bytes
unfoldable pub line_at : List ℕ → Option Line
line_at bytes =
    option_map line_of
    ((number_at 32 (2 ^ 128 - 1) ▹ digits_at 32 (2 ^ 128 - 1) ▹ digits_at 32 (2 ^ 128 - 1)
    ▹ whole (digits_at 32 (2 ^ 128 - 1))) bytes)
