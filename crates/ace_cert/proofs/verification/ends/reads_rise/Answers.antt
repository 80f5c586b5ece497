use Rattle.std.proofs.Common.{◌-◌, arith}
use Rattle.ace_cert.specs.declared.cert.ReadPlace.{ReadPlace}
use Rattle.ace_cert.proofs.Elements.{rises}
use Rattle.ace_cert.proofs.WalkEnds.{rise-more}
use Rattle.ace_cert.proofs.WalkHear.{denied}
use Rattle.ace_cert.proofs.verification.ends.reads_rise.Goals as goal

pub returns-then-get : goal.returns-then-get
returns-then-get c =
    let back = c.if-get.true in
    denied (λ up.
    let less = rises (λ (r : ReadPlace). r.event) c.args.reads.now up (c.loop-i.i - 1) c.loop-i.i c.get-in-loop-i.result.now c.get.result.now (omega arith) c.get-in-loop-i.ensures c.get.ensures in
    omega (arith, less, back))

pub loop-i-preserved : goal.loop-i-preserved
loop-i-preserved c =
    rise-more (λ (r : ReadPlace). r.event) c.args.reads.now c.loop-i.i c.get.result.now c.get-in-loop-i.result.now c.get.ensures c.get-in-loop-i.ensures c.if-get.false (omega arith) c.loop-i.invariant
