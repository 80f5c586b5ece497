use Rattle.std.proofs.Common.{arith, sym, ◌∙◌}
use Rattle.ace_bin.proofs.Headers.{ace_counted, lite_counted}
use Rattle.ace_bin.proofs.header.count_ports.Goals as goal
use Rattle.ace_bin.proofs.header.count_ports.Goals.{then-is_ace, else-is_ace}

pub loop-port-preserved : goal.loop-port-preserved
loop-port-preserved c =
    elim c.if-is_ace.branch [
      | then-is_ace w ↦
          let n = ace_counted c.args.header.now.ace c.loop-port.port (sym w.if-is_ace.true ∙ c.is_ace.ensures) in
          record {
            in_ports = omega (arith, c.loop-port-test.true);
            counted = omega (arith, w.ace-is, w.lite-is, c.loop-port.invariant.counted);
            ace = omega (arith, n.0, w.ace-is, c.loop-port.invariant.ace);
            lite = omega (arith, n.1, w.lite-is, c.loop-port.invariant.lite);
          }
      | else-is_ace w ↦
          let n = lite_counted c.args.header.now.ace c.loop-port.port (sym w.if-is_ace.false ∙ c.is_ace.ensures) in
          record {
            in_ports = omega (arith, c.loop-port-test.true);
            counted = omega (arith, w.ace-is, w.lite-is, c.loop-port.invariant.counted);
            ace = omega (arith, n.0, w.ace-is, c.loop-port.invariant.ace);
            lite = omega (arith, n.1, w.lite-is, c.loop-port.invariant.lite);
          }
    ]
