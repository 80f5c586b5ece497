-- Numbers among the words of a command line.
use Rattle.std.specs.Prelude.{◌≡◌, ◌<◌, ◌^◌, ℕ, List, decimal}

-- the word is this number, from 0 to 2^64 - 1, in decimal: it has no sign, and no zero in front
abbrev pub IsNumber : List ℕ → ℕ → Type 0
IsNumber word number = (number < 2 ^ 64) × (word ≡ decimal number)
