use Rattle.std.proofs.Common.{◌≡◌, ℕ, ◌<◌, slice_get}
use Rattle.ace_engine_tests.proofs.order.puts.Given as goal

-- the events so far are those of the burst
abbrev pub invariant-loop-i : goal.invariant-loop-i
invariant-loop-i l = (k : ℕ) → k < l.i → slice_get l.out k ≡ slice_get l.events k
