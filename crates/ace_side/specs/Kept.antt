-- What is kept of the lines before a line, and what it says of them.
use Rattle.std.specs.Prelude.{◌≡◌, ℕ, ◌&&◌, Bool, true, not, nat_eq, nat_lt, nat_le, List, Option, Some, None, is_none}
use Rattle.indexmap.specs.IndexSet.{contains}
use Rattle.ace_side.specs.declared.line.SideLine.{SideLine}
use Rattle.ace_side.specs.declared.line.SideLine.TheVariants.{TimeUnit, Port, Addr, Time, Id, Note}
use Rattle.ace_side.specs.declared.line.SideEnd.{SideEnd}
use Rattle.ace_side.specs.declared.order.Order.{Order}
use Rattle.ace_side.specs.Order.{allows, may_follow, end_of, first_of, ending}

-- behind the last time, if there is one
abbrev pub is_after : Option (ℕ × ℕ) → ℕ → ℕ → Bool
is_after None event time = true
is_after (Some last) event time = nat_lt last.0 event && nat_le last.1 time

-- behind the last identifier, if there is one
abbrev pub is_later : Option ℕ → ℕ → Bool
is_later None event = true
is_later (Some last) event = nat_lt last event

-- whether the line may stand behind those of which this is kept
abbrev pub permits : Order → SideLine → Bool
permits o (TimeUnit _) = not o.has_unit && is_none o.time
permits o (Port port _) = not (contains nat_eq o.ports port)
permits o (Addr addr real) =
    not (contains nat_eq o.addrs addr) && not (contains nat_eq o.reals real.value)
permits o (Time event time) = nat_le o.event event && is_after o.time event time
permits o (Id event _) = nat_le o.event event && is_later o.id event
permits o (Note event _) = nat_le o.event event
permits o _ = true

-- how those lines end
abbrev pub ending_of : Order → Option SideEnd
ending_of o = o.ending

-- It is what is kept of these lines, the newest first.
pub record Stands (past : List SideLine) (o : Order) : Type 0 where
  pub follows : (line : SideLine) → permits o line ≡ may_follow past line
  pub ends : ending_of o ≡ ending past

-- One more line is kept.
pub record KeepsOne (line : SideLine) (old new : Order) : Type 0 where
  pub follows : (other : SideLine) → permits new other ≡ (allows line other && permits old other)
  pub ends : ending_of new ≡ first_of (ending_of old) (end_of line)
