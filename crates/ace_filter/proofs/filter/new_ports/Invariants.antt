use Rattle.std.proofs.Common.{◌≡◌, ℕ, [], length, Some, slice_get}
use Rattle.ace_filter.proofs.Terms.{IsWatched, PortWatch}
use Rattle.ace_filter.proofs.filter.new_ports.Given as goal

-- the ports so far are without events
abbrev pub invariant-loop-port : goal.invariant-loop-port
invariant-loop-port l = record {
  len : length l.ports.items ≡ l._port;
  each : (p : ℕ) (s : PortWatch) → slice_get l.ports.items p ≡ Some s → IsWatched l.lines [] p s;
}
