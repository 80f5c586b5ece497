use Rattle.std.proofs.Common.{◌≡◌, drop}
use Rattle.std.specs.List.{flat_map}
use Rattle.ace_report.specs.Lines.{load_line}
use Rattle.ace_report.specs.Put.{Puts}
use Rattle.ace_report.proofs.put.put_loads.Given as goal

abbrev pub invariant-loop-load : goal.invariant-loop-load
invariant-loop-load g l = record {
  puts : Puts (g.K.Sink.held l.fn.sink) l.fn.page (flat_map load_line l.loads) (g.K.Sink.held l.sink) l.page (flat_map load_line (drop l.load-index l.loads));
  steady : g.K.Sink.faults l.sink ≡ g.K.Sink.faults l.fn.sink;
}
