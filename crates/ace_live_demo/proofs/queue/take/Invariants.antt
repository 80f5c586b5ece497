use Rattle.std.proofs.Common.{◌≡◌}
use Rattle.ace_live_demo.proofs.queue.take.Given as goal

abbrev pub invariant-loop : goal.invariant-loop
invariant-loop g l = l.seat.live ≡ l.live
