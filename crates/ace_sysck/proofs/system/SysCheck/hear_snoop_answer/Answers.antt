use Rattle.std.proofs.Common.{◌≡◌, true, false, refl, sym, ◌∙◌}
use Rattle.ace_sysck.proofs.Terms.{Cr, target_of, answers_message}
use Rattle.ace_sysck.proofs.Forwarding.InboxHears.{inboxes_answer, inboxes_other_cr}
use Rattle.ace_sysck.proofs.ByKind.SnoopAnswers.{answer-step, answers-kind, monitors-answer, system-answer}
use Rattle.ace_sysck.proofs.SyncSteps.{syncs_no_message}
use Rattle.ace_sysck.proofs.system.SysCheck.hear_snoop_answer.Goals as goal

pub returns-then-is_message-clause-stands : goal.returns-then-is_message-clause-stands
returns-then-is_message-clause-stands c = λ r x resp s is at fine few.
    let k = c.args.self.now in
    let a = c.args in
    let t = target_of r.header r.past (Cr a.port resp a.st) in
    let step = answer-step r a.port resp a.st k s fine few in
    let message : answers_message t ≡ true = answers-kind r a.port resp a.st x c.args.kind is ∙ sym c.is_message.ensures ∙ c.if-is_message.true in
    system-answer r a.port resp a.st k c.leave.new.self c.answer-then-is_message.new.self c.answer.new.self s fine few
    (monitors-answer r a.port resp a.st k.monitors c.leave.new.self x c.args.kind c.args.line step is at s.monitors c.leave.ensures)
    (inboxes_answer r k.inboxes c.answer-then-is_message.new.self a.port resp a.st t step.accepted refl message s.inboxes c.answer-then-is_message.ensures)
    (c.answer.ensures r resp a.st t step message s.inboxes s.syncs)

pub returns-else-is_message-clause-stands : goal.returns-else-is_message-clause-stands
returns-else-is_message-clause-stands c = λ r x resp s is at fine few.
    let k = c.args.self.now in
    let a = c.args in
    let t = target_of r.header r.past (Cr a.port resp a.st) in
    let step = answer-step r a.port resp a.st k s fine few in
    let other : answers_message t ≡ false = answers-kind r a.port resp a.st x c.args.kind is ∙ sym c.is_message.ensures ∙ c.if-is_message.false in
    system-answer r a.port resp a.st k c.leave.new.self k.inboxes k.syncs s fine few
    (monitors-answer r a.port resp a.st k.monitors c.leave.new.self x c.args.kind c.args.line step is at s.monitors c.leave.ensures)
    (inboxes_other_cr r k.inboxes a.port resp a.st t step.accepted refl other s.inboxes)
    (syncs_no_message r k.syncs t a.port resp a.st step other s.syncs)
