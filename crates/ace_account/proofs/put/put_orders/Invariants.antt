use Rattle.std.proofs.Common.{◌≡◌, drop}
use Rattle.std.specs.List.{flat_map}
use Rattle.ace_account.specs.Certificate.{order_lines}
use Rattle.ace_report.specs.Put.{Puts}
use Rattle.ace_account.proofs.put.put_orders.Given as goal

abbrev pub invariant-loop-i : goal.invariant-loop-i
invariant-loop-i g l = record {
  puts : Puts (g.K.Sink.held l.fn.sink) l.fn.page (flat_map order_lines l.lines) (g.K.Sink.held l.sink) l.page (flat_map order_lines (drop l.i l.lines));
  steady : g.K.Sink.faults l.sink ≡ g.K.Sink.faults l.fn.sink;
}
