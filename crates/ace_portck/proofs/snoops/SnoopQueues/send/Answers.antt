use Rattle.std.proofs.Common.{arith}
use Rattle.ace_portck.proofs.SnoopSteps.{snoops_cd, snoops_cd_last, cd-sends}
use Rattle.ace_portck.proofs.snoops.SnoopQueues.send.Goals as goal

pub returns-then-self-lt3-clause-stands : goal.returns-then-self-lt3-clause-stands
returns-then-self-lt3-clause-stands c = λ h past p last word a s.
    snoops_cd past p c.args.self.now s last word (cd-sends h past p last word a) c.if-self-lt3.true

pub returns-else-self-lt3-clause-stands : goal.returns-else-self-lt3-clause-stands
returns-else-self-lt3-clause-stands c = λ h past p last word a s.
    let high = c.if-self-lt3.false in
    let e = c.pop_front-whole.ensures in
    rw (e.rest, e.capacity) (snoops_cd_last past p c.args.self.now s last word (cd-sends h past p last word a) (λ low. omega (arith, low, high)))
