-- The lines that have places.
use Rattle.std.specs.Prelude.{ℕ, List, Option, nat_eq, position}

-- The lines that have places, in the order of their places, and for how many more there is room.
pub record Placed : Type 0 where
  pub lines : List ℕ
  pub room : ℕ

-- the place of the line, if it has one
abbrev pub place_in : List ℕ → ℕ → Option ℕ
place_in lines line = position (nat_eq line) lines
