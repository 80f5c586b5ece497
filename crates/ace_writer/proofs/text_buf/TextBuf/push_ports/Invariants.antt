use Rattle.std.proofs.Common.{◌≡◌, ◌≤◌, ◌+◌, ◌++◌, length, map, codes}
use Rattle.std.specs.List.{range_with_len}
use Rattle.ace_event.specs.Ports.{port_letter}
use Rattle.ace_writer.proofs.text_buf.TextBuf.push_ports.Given as goal

abbrev pub invariant-loop-port : goal.invariant-loop-port
invariant-loop-port l = record {
  in_ports : l.port ≤ l.header.ports;
  len : length l.self ≡ length l.fn.self + 6 + l.port;
  text : l.self ≡ l.fn.self ++ (codes "PORTS " ++ map (port_letter l.header.ace) (range_with_len 0 l.port));
}
