use Rattle.std.proofs.Common.{◌≡◌, drop}
use Rattle.std.specs.List.{flat_map}
use Rattle.ace_account.specs.Certificate.{store_line}
use Rattle.ace_report.specs.Put.{Puts}
use Rattle.ace_account.proofs.put.put_stores.Given as goal

abbrev pub invariant-loop-i : goal.invariant-loop-i
invariant-loop-i g l = record {
  puts : Puts (g.K.Sink.held l.fn.sink) l.fn.page (flat_map (store_line l.order.addr) l.order.stores) (g.K.Sink.held l.sink) l.page (flat_map (store_line l.order.addr) (drop l.i l.order.stores));
  steady : g.K.Sink.faults l.sink ≡ g.K.Sink.faults l.fn.sink;
}
