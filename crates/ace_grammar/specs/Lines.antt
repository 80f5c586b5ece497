-- Lines at the front of bytes.
use Rattle.std.specs.Prelude.{◌≡◌, ℕ, ◌<◌, List, ◌++◌, length}
use Rattle.ace_io.specs.Line.{HasNoLf}
use Rattle.ace_event.specs.Text.{line_text}

-- the bytes are this text, and then a rest
abbrev pub BeginsWith : List ℕ → List ℕ → Type 0
BeginsWith bytes text = (rest : List ℕ) × (bytes ≡ text ++ rest)

-- the first line of the bytes, of fewer than 256 bytes, and with its line feed
abbrev pub IsFirstLine : List ℕ → List ℕ → Type 0
IsFirstLine line bytes = HasNoLf line × (length line < 256) × BeginsWith bytes (line_text line)

-- The bytes have no such line: they end before their first line feed, or the first 256 of them hold
-- none.
abbrev pub HasNoLine : List ℕ → Type 0
HasNoLine bytes = (line : List ℕ) → ¬ IsFirstLine line bytes
