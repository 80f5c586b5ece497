use Rattle.std.proofs.Common.{arith}
use Rattle.std.specs.Option.{option_copied}
use Rattle.ace_chart.proofs.Steps.{ports_done, ports_next}
use Rattle.ace_chart.proofs.lifelines.push_ports.Goals as goal

pub loop-port-preserved : goal.loop-port-preserved
loop-port-preserved c = record {
  few = omega (arith, c.loop-port-test.true);
  lifelines = ports_next c.args.header.now (option_copied c.args.side) c.args.bottom c.loop-port.port _ _ _ (omega (arith, c.loop-port-test.true)) c.loop-port.invariant.lifelines
      c.in_ok-push_port_lifeline.ensures;
}

pub returns : goal.returns
returns c =
    ports_done c.args.header.now (option_copied c.args.side) c.args.bottom c.loop-port.port _ _ (omega (arith, c.loop-port-test.false)) c.loop-port.invariant.lifelines
