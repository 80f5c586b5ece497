use Rattle.std.proofs.Common.{arith}
use Rattle.ace_fabric.proofs.WhatIsLeft.{owned-next}
use Rattle.ace_fabric.proofs.left.operations_at.Goals.{then-get-port, else-get-port}
use Rattle.ace_fabric.proofs.left.operations_at.Goals as goal

pub loop-i-preserved : goal.loop-i-preserved
loop-i-preserved c =
    let ops = c.args.plan.now.plan.operations in
    let next = owned-next ops c.loop-i.i c.args.port c.loop-i.count c.get.result c.get.ensures c.loop-i.invariant.value in
    let low = c.loop-i.invariant.low in
    elim c.if-get-port.branch [
      | then-get-port w ↦ rw w.count-is (record { value = next.0 w.if-get-port.true; low = omega (arith, low) })
      | else-get-port w ↦ rw w.count-is (record { value = next.1 w.if-get-port.false; low = omega (arith, low) })
    ]
