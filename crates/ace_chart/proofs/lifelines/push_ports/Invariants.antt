use Rattle.std.proofs.Common.{◌≡◌, ◌≤◌, ◌-◌, ◌++◌}
use Rattle.std.specs.Option.{option_copied}
use Rattle.ace_chart.specs.Lifelines.{port_lifelines}
use Rattle.ace_chart.proofs.lifelines.push_ports.Given as goal

-- the ports so far, and the others
abbrev pub invariant-loop-port : goal.invariant-loop-port
invariant-loop-port l = record {
  few : l.port ≤ l.header.ports;
  lifelines : l.text.items ++ port_lifelines l.header (option_copied l.side) l.bottom l.port (l.header.ports - l.port)
      ≡ l.initial.text.items ++ port_lifelines l.header (option_copied l.side) l.bottom 0 l.header.ports;
}
