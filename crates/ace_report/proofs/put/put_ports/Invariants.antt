use Rattle.std.proofs.Common.{◌≡◌, drop}
use Rattle.ace_report.specs.Lines.{ports_text}
use Rattle.ace_report.specs.Put.{Puts}
use Rattle.ace_report.proofs.put.put_ports.Given as goal

abbrev pub invariant-loop-port : goal.invariant-loop-port
invariant-loop-port g l = record {
  puts : Puts (g.K.Sink.held l.fn.sink) l.fn.page (ports_text 0 l.ports) (g.K.Sink.held l.sink) l.page (ports_text l.port (drop l.port l.ports));
  steady : g.K.Sink.faults l.sink ≡ g.K.Sink.faults l.fn.sink;
}
