-- How a stream of bytes is cut into lines. The bytes may not be told: then nothing is said of them.
use Rattle.std.specs.Prelude.{◌≡◌, ◌≢◌, ◌<◌, ◌≤◌, ◌+◌, ℕ, List, [], ◌∷◌, ◌++◌, length, take, All, Option, None, Some}
use Rattle.std.specs.Option.{option_map}
use Rattle.std.specs.Io.KnownBytes.{Consumes, IsAtEnd}
use Rattle.ace_io.specs.declared.line_buf.LineEnd.{LineEnd}
use Rattle.ace_io.specs.declared.line_buf.LineEnd.TheVariants.{Whole, NoLf, End}

-- no byte of it is a line feed
abbrev pub HasNoLf : List ℕ → Type 0
HasNoLf bytes = All (λ b. b ≢ 10) bytes

-- What stood before, the next line of it, how that ends, and what is left after it. With its line
-- feed a line has at most 256 bytes.
abbrev pub CutsLine : Option (List ℕ) → List ℕ → LineEnd → Option (List ℕ) → Type 0
CutsLine old line Whole new = (length line < 256) × Consumes old new (line ++ 10 ∷ [])
CutsLine old line NoLf new =
    (0 < length line) × (length line ≤ 256) × (length line < 256 → IsAtEnd new)
    × Consumes old new line
CutsLine old line End new = (line ≡ []) × IsAtEnd new × Consumes old new line

-- What was taken before a failure, and not given, is less than a line.
abbrev pub IsPending : Option (List ℕ) → Option (List ℕ) → Type 0
IsPending old new = (taken : List ℕ) × HasNoLf taken × (length taken < 256) × Consumes old new taken

-- A line without a line feed, of fewer than 256 bytes, and then a line feed stand in front of the
-- bytes in hand.
pub record IsHeldLine (line held : List ℕ) : Type 0 where
  pub no_lf : HasNoLf line
  pub short : length line < 256
  pub within : length line < length held
  pub front : take (length line + 1) held ≡ line ++ 10 ∷ []

-- the bytes in hand, before those that are known to be left
abbrev pub in_front : List ℕ → Option (List ℕ) → Option (List ℕ)
in_front held left = option_map (λ bytes. held ++ bytes) left

-- A step of the cutting: bytes in hand go to the line so far, up to its end, if that is among them.
abbrev pub CutsHeld : List ℕ → List ℕ → List ℕ → Option LineEnd → List ℕ → Type 0
CutsHeld line held new_line None rest =
    (piece : List ℕ) × (0 < length piece) × (length new_line < 256)
    × (new_line ≡ line ++ piece) × (held ≡ piece ++ rest)
CutsHeld line held new_line (Some Whole) rest = (piece : List ℕ) × (length new_line < 256)
    × (new_line ≡ line ++ piece) × (held ≡ piece ++ 10 ∷ rest)
CutsHeld line held new_line (Some NoLf) rest = (piece : List ℕ) × (length new_line ≡ 256)
    × (new_line ≡ line ++ piece) × (held ≡ piece ++ rest)
CutsHeld line held new_line (Some End) rest = ⊥

-- The same step, of bytes that may not be told, and with the end of the input.
abbrev pub CutsPiece : List ℕ → Option (List ℕ) → List ℕ → Option LineEnd → Option (List ℕ) → Type 0
CutsPiece line old new_line None new =
    (piece : List ℕ) × (0 < length piece) × (length new_line < 256)
    × (new_line ≡ line ++ piece) × Consumes old new piece
CutsPiece line old new_line (Some Whole) new = (piece : List ℕ) × (length new_line < 256)
    × (new_line ≡ line ++ piece) × Consumes old new (piece ++ 10 ∷ [])
CutsPiece line old new_line (Some NoLf) new =
    (piece : List ℕ) × (0 < length new_line) × (length new_line ≤ 256)
    × (length new_line < 256 → IsAtEnd new) × (new_line ≡ line ++ piece) × Consumes old new piece
CutsPiece line old new_line (Some End) new =
    (line ≡ []) × (new_line ≡ []) × IsAtEnd new × Consumes old new []
