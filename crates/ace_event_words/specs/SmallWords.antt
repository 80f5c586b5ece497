-- Words for parts of events.
use Rattle.std.specs.Prelude.{ℕ, ◌==◌, Bool, if◌then◌else◌, List, [], codes}
use Rattle.ace_codes.specs.Responses.{low_bits}

-- the word, where the bit is 1
abbrev pub bit_word : Bool → List ℕ → List ℕ
bit_word bit word = if bit then word else []

-- what the low bits of a response say, behind a comma and a space
abbrev pub resp_word : ℕ → List ℕ
resp_word resp =
    if low_bits resp == 0 then codes ", OKAY"
    else (if low_bits resp == 1 then codes ", EXOKAY"
    else (if low_bits resp == 2 then codes ", SLVERR" else codes ", DECERR"))
