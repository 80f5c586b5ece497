-- A source over bytes in memory, as contracts see it.
use Rattle.std.specs.Prelude.{ℕ, List, Bool, All, ◌==◌, ◌<◌, ◌≤◌, ◌%◌, length, min, slice_index}
use Rattle.std.specs.List.{list_any}

-- what it has left, the most bytes of each take in turn, the numbers of the takes that fail, and
-- how many takes and faults there were so far: both counts stop at the last number of 64 bits
pub record SourceInMemory : Type 0 where
  pub left : List ℕ
  pub pieces : List ℕ
  pub fails : List ℕ
  pub takes : ℕ
  pub faults : ℕ

-- whether the next take fails
abbrev pub fails_next : SourceInMemory → Bool
fails_next s = list_any (λ listed. listed == s.takes) s.fails

-- how many bytes the next take gives into so much room, where it doesn't fail
abbrev pub next_count : SourceInMemory → ℕ → ℕ
next_count s room =
    min (min (slice_index s.pieces (s.takes % length s.pieces)) room) (length s.left)

-- so many of the bytes were given, and there are sizes of pieces, none of them 0
pub record GivesPieces (bytes : List ℕ) (given : ℕ) (pieces : List ℕ) : Type 0 where
  pub in_bytes : given ≤ length bytes
  pub some : 0 < length pieces
  pub positive : All (λ piece. 0 < piece) pieces
