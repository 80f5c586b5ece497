use Rattle.std.proofs.Common.{◌≡◌}
use Rattle.std.specs.List.{flat_map}
use Rattle.ace_report.specs.Lines.{line_line}
use Rattle.ace_report.specs.Put.{Puts}
use Rattle.ace_report.proofs.put.put_lines.Given as goal

abbrev pub invariant-loop-line : goal.invariant-loop-line
invariant-loop-line g l = record {
  puts : Puts (g.K.Sink.held l.fn.sink) l.fn.page (flat_map line_line l.fn.lines) (g.K.Sink.held l.sink) l.page (flat_map line_line l.line-iterator);
  steady : g.K.Sink.faults l.sink ≡ g.K.Sink.faults l.fn.sink;
}
