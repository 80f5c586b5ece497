-- The bytes of a cache line, and stores into it byte by byte.
use Rattle.std.specs.Prelude.{ℕ, zero, suc, ◌+◌, ◌-◌, ◌*◌, ◌/◌, ◌%◌, ◌==◌, if◌then◌else◌, map, slice_index}
use Rattle.std.specs.List.{range_with_len}
use Rattle.std.specs.Int.{byte_at, bit_at}
use Rattle.ace_event.specs.declared.line.Line.{Line}

-- Byte n of the line, from 0 to 63. Word n / 16 has it, and the most significant byte of a word has
-- the lowest address.
abbrev pub byte_of : Line → ℕ → ℕ
byte_of line n = byte_at (15 - n % 16) (slice_index line.words (n / 16))

-- Byte n after a store: bit n of the strobe says that it is stored.
abbrev pub stored_byte : Line → ℕ → Line → ℕ → ℕ
stored_byte line strobe bytes n = if bit_at strobe n == 1 then byte_of bytes n else byte_of line n

-- the number that so many bytes make, byte 0 the most significant
unfoldable pub number_of_bytes : (ℕ → ℕ) → ℕ → ℕ
number_of_bytes byte zero = 0
number_of_bytes byte (suc count) = number_of_bytes byte count * 256 + byte count

-- word k after a store: its sixteen bytes
abbrev pub merged_word : Line → ℕ → Line → ℕ → ℕ
merged_word line strobe bytes k =
    number_of_bytes (λ j. stored_byte line strobe bytes (16 * k + j)) 16

-- the line after a store of the bytes whose bits of the strobe are 1
unfoldable pub merged : Line → ℕ → Line → Line
merged line strobe bytes =
    record { words = map (merged_word line strobe bytes) (range_with_len 0 4) }
