use Rattle.std.proofs.Common.{◌<◌, arith}
use Rattle.ace_sysck.proofs.ByKind.MessageAddresses.{message_begun}
use Rattle.ace_sysck.proofs.system.SysCheck.begin_message.Goals as goal

pub returns-clause-stands : goal.returns-clause-stands
returns-clause-stands c = λ r e s new part fine few.
    let x = c.args.part.now in
    let low : x.id < 256 = omega arith in
    let kept = c.of-kept.ensures.stands r s.messages in
    message_begun c.args.self.now c.begin.new.self c.issue.new.self c.send_with.new.self c.issue-2.new.self c.of-kept.result r e x s part fine few
    new low kept c.begin.ensures (λ t step begun part. c.issue.ensures r e t step begun part kept s.syncs)
    c.send_with.ensures.size c.send_with.ensures.all c.issue-2.ensures
