-- Digits side by side.
use Rattle.std.specs.Prelude.{◌≡◌, ℕ, ◌+◌, ◌*◌, Bool, true, ◌&&◌, nat_lt, if◌then◌else◌, List, [], ◌∷◌, Some, None}
use Rattle.ace_grammar.specs.Fields.{digit_of}

-- what is looked up of a byte: the value of a digit, or no number below 16
abbrev pub IsEntry : ℕ → ℕ → Type 0
IsEntry byte entry = digit_of byte ≡ if nat_lt entry 16 then Some entry else None

-- the same of each byte
abbrev pub HaveEntries : List ℕ → List ℕ → Type 0
HaveEntries [] [] = Unit {0}
HaveEntries [] (entry ∷ entries) = ⊥
HaveEntries (byte ∷ bytes) [] = ⊥
HaveEntries (byte ∷ bytes) (entry ∷ entries) = IsEntry byte entry × HaveEntries bytes entries

abbrev pub are_entries : List ℕ → Bool
are_entries [] = true
are_entries (entry ∷ entries) = nat_lt entry 16 && are_entries entries

-- a number, once digits of these values are put behind it
abbrev pub entries_onto : ℕ → List ℕ → ℕ
entries_onto number [] = number
entries_onto number (entry ∷ entries) = entries_onto (number * 16 + entry) entries
