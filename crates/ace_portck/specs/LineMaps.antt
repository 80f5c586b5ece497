-- Maps by lines that have room for the lines that the transactions of a trace name.
use Rattle.std.specs.Prelude.{ℕ, ◌≡◌, ◌+◌, ◌≤◌, true, IsSome, nat_eq}
use Rattle.std.specs.HashMap.{HashMap, IsUnique, get, hash_map_len, spare}
use Rattle.ace_model.specs.Lines.{is_known}
use Rattle.ace_model.specs.Trace.{Trace}

-- There is room for so many lines, and each line of the map is one that a transaction of the trace
-- names.
pub record HasRoomForLines {X S : Type 0} (lines : ℕ) (past : Trace) (m : HashMap ℕ X S)
    : Type 0 where
  pub places : lines ≤ hash_map_len m + spare m
  pub known : (l : ℕ) → IsSome (get nat_eq m l) → is_known past l ≡ true
  pub unique : IsUnique nat_eq m
