-- A sink in memory, as contracts see it.
use Rattle.std.specs.Prelude.{ℕ, List, Bool, ◌==◌, ◌||◌, ◌-◌, length, min}
use Rattle.std.specs.List.{list_any}

-- what it holds, the most bytes that it can hold, the numbers of the gives that fail, and how many
-- gives and faults there were so far: both counts stop at the last number of 64 bits
pub record SinkInMemory : Type 0 where
  pub held : List ℕ
  pub room : ℕ
  pub fails : List ℕ
  pub gives : ℕ
  pub faults : ℕ

-- whether the next give fails: it is listed, or the room is full
abbrev pub refuses_next : SinkInMemory → Bool
refuses_next s = length s.held == s.room || list_any (λ listed. listed == s.gives) s.fails

-- how many bytes of a piece of this length the next give takes, where it doesn't fail
abbrev pub fitting_count : SinkInMemory → ℕ → ℕ
fitting_count s len = min len (s.room - length s.held)
