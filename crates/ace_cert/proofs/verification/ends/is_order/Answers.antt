use Rattle.std.proofs.Common.{◌≡◌, length, arith}
use Rattle.ace_cert.proofs.WalkEnds.{is-not, order-from}
use Rattle.ace_cert.proofs.WalkHear.{granted}
use Rattle.ace_cert.proofs.verification.ends.is_order.Goals as goal

pub returns : goal.returns
returns c = λ past kept here.
    let stores : c.facts_at-facts.result.stores ≡ length c.args.order.now.stores = omega arith in
    granted (order-from past c.args.lines.now c.args.order.now kept c.args.point here c.facts_at-facts.result c.facts_at-facts.ensures (is-not c.facts_at-facts.result.named c.if-not-facts.false) stores
    c.requires.few (λ j low. c.loop-k.invariant j (omega arith)))
