use Rattle.std.proofs.Common.{◌≡◌}
use Rattle.ace_live_tests.proofs.callers.count.Given as goal

abbrev pub invariant-loop : goal.invariant-loop
invariant-loop g l = (l.seat.live ≡ l.live) × (l.seat.port ≡ l.initial.seat.port)
