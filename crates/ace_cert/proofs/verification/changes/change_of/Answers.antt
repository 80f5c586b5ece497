use Rattle.std.proofs.Common.{arith}
use Rattle.ace_cert.proofs.verification.changes.change_of.Goals as goal

pub returns-in-R : goal.returns-in-R
returns-in-R c = λ past kept here l. rw c.in-R.is (c.transferred.ensures past c.in-R.resp c.in-R.word c.in-R.last kept here l)

pub returns-in-M : goal.returns-in-M
returns-in-M c = λ past kept here l.
    let few = c.requires.few in
    rw c.in-M.is (c.written.ensures past kept (omega (arith, few, here)) l)
