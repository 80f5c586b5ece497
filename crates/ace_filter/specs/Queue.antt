-- What the queue of the lines that a port may lose says of what began at it, and how much ended.
use Rattle.std.specs.Prelude.{ℕ, ◌≡◌, ◌≤◌, ◌+◌, List, [], ◌∷◌, length, drop, Option, Some, None}
use Rattle.std.specs.VecDeque.{deque_capacity}
use Rattle.ace_filter.specs.declared.queue.LineTurn.{LineTurn}
use Rattle.ace_filter.specs.declared.queue.LineQueue.{LineQueue}

-- a line with its number, if there is a line
abbrev pub turn_at : ℕ → Option ℕ → List LineTurn
turn_at n None = []
turn_at n (Some l) = record { number = n; line = l } ∷ []

-- the lines among these, each with its number, the first of which is n
abbrev pub turns_from : ℕ → List (Option ℕ) → List LineTurn
turns_from n [] = []
turns_from n (None ∷ rest) = turns_from (n + 1) rest
turns_from n (Some l ∷ rest) = record { number = n; line = l } ∷ turns_from (n + 1) rest

-- these began, in this order, and so many of them ended
pub record QueueStands (all : List (Option ℕ)) (done : ℕ) (s : LineQueue) : Type 0 where
  pub lines : s.lines.items ≡ turns_from done (drop done all)
  pub begun : s.begun ≡ length all
  pub ended : s.ended ≡ done
  pub within : done ≤ length all

-- there is room for so many lines
abbrev pub HasRoom : ℕ → LineQueue → Type 0
HasRoom lines s = lines ≤ deque_capacity s.lines
