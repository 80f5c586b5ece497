use Rattle.std.proofs.Common.{arith}
use Rattle.ace_chart.proofs.Steps.{states_done, states_next}
use Rattle.ace_chart.proofs.cells.push_states.Goals as goal

pub loop-port-preserved : goal.loop-port-preserved
loop-port-preserved c = record {
  few = omega (arith, c.loop-port-test.true);
  cells = states_next c.args.ports c.args.row c.args.states.now c.loop-port.port _ _ _ _ (omega (arith, c.loop-port-test.true, c.told-states))
      c.loop-port.invariant.cells (rw c.from.ensures at c.in_ok-push_state.ensures);
}

pub returns : goal.returns
returns c =
    states_done c.args.ports c.args.row c.args.states.now c.loop-port.port _ _ (omega (arith, c.loop-port-test.false, c.told-states))
    c.loop-port.invariant.cells
