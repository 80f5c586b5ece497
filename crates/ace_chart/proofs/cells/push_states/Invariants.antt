use Rattle.std.proofs.Common.{◌≡◌, ◌≤◌, ◌++◌, drop, length}
use Rattle.ace_chart.specs.Cells.{state_cells}
use Rattle.ace_chart.proofs.cells.push_states.Given as goal

-- the ports so far, and the others
abbrev pub invariant-loop-port : goal.invariant-loop-port
invariant-loop-port l = record {
  few : l.port ≤ 32;
  cells : l.text.items ++ state_cells l.ports l.row l.port (drop l.port l.states)
      ≡ l.initial.text.items ++ state_cells l.ports l.row 0 l.states;
}
