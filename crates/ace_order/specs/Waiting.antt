-- Barriers that have to wait.
use Rattle.std.specs.Prelude.{ℕ, ◌≡◌, Bool, false, ◌==◌, Some, slice_get, slice_index_or}
use Rattle.ace_event.specs.declared.event.Event.{Event}
use Rattle.ace_event.specs.declared.event.Event.TheVariants.{R, B, G, M}
use Rattle.ace_model.specs.Barriers.{Pair, is_pair_complete, may_answer, pairs}
use Rattle.ace_model.specs.Trace.{Trace}
use Rattle.ace_order.specs.declared.waiting.Waiting.{Waiting}

-- A barrier pair of the port isn't complete, and something before it hasn't come far enough.
pub record HasToWait (past : Trace) (p : ℕ) : Type 0 where
  pub number : ℕ
  pub pair : Pair
  pub there : slice_get (pairs past p) number ≡ Some pair
  pub undone : is_pair_complete past pair ≡ false
  pub held : may_answer past p pair ≡ false

-- The event belongs to a transaction of the port: it may complete it, or be its order point. No
-- other ends a wait.
abbrev pub may_end_wait : Event → ℕ → Bool
may_end_wait (R q i resp last word) p = q == p
may_end_wait (B q i resp) p = q == p
may_end_wait (G q c i) p = q == p
may_end_wait (M q c i line) p = q == p
may_end_wait _ p = false

-- the port's barrier is taken to wait
abbrev pub is_waiting : Waiting → ℕ → Bool
is_waiting s p = slice_index_or s.ports p false
