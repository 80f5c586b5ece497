use Rattle.ace_cert.proofs.verification.changes.written.Goals as goal

pub returns-in-Read : goal.returns-in-Read
returns-in-Read c = λ past kept few l. rw c.in-Read.is (c.written_for_read.ensures past kept l)

pub returns-in-Write : goal.returns-in-Write
returns-in-Write c = λ past kept few l. rw c.in-Write.is (c.written_for_write.ensures past kept few l)
