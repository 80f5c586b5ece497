use Rattle.std.proofs.Common.{true, refl, ◌∙◌}
use Rattle.ace_sysck.proofs.Terms.{R, B, target_of}
use Rattle.ace_sysck.proofs.EventLaws.{responded_is}
use Rattle.ace_sysck.proofs.ByKind.Responses.{transaction_completed}
use Rattle.ace_sysck.proofs.system.SysCheck.complete_transaction.Goals as goal

pub returns-clause-beat : goal.returns-clause-beat
returns-clause-beat c = λ r port id resp word s out fine few.
    let e = R port id resp true word in
    transaction_completed c.args.self.now c.answer.new.self c.complete.new.self r e c.args.x.now s refl (responded_is r.header r.past e (target_of r.header r.past e) refl ∙ out) fine few
    c.answer.ensures c.complete.ensures

pub returns-clause-response : goal.returns-clause-response
returns-clause-response c = λ r port id resp s out fine few.
    let e = B port id resp in
    transaction_completed c.args.self.now c.answer.new.self c.complete.new.self r e c.args.x.now s refl (responded_is r.header r.past e (target_of r.header r.past e) refl ∙ out) fine few
    c.answer.ensures c.complete.ensures
