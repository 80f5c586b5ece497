use Rattle.std.proofs.Common.{◌≡◌, ◌≤◌, ◌+◌}
use Rattle.ace_bin.proofs.Headers.{with_letter}
use Rattle.ace_bin.proofs.header.count_ports.Given as goal

abbrev pub invariant-loop-port : goal.invariant-loop-port
invariant-loop-port l = record {
  in_ports : l.port ≤ l.header.ports;
  counted : l.ace + l.lite ≡ l.port;
  ace : l.ace ≡ with_letter 65 l.header.ace l.port;
  lite : l.lite ≡ with_letter 76 l.header.ace l.port;
}
