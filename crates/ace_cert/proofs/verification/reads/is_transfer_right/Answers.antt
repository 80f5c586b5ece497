use Rattle.std.proofs.Common.{sym, ◌∙◌, arith}
use Rattle.ace_cert.proofs.WalkReads.{transfer-beat}
use Rattle.ace_cert.proofs.verification.reads.is_transfer_right.Goals as goal

pub returns-else-not-is_line_read : goal.returns-else-not-is_line_read
returns-else-not-is_line_read c = λ reads past kept places here.
    let low = c.requires.few in
    c.is_beat_right.ensures
    ∙ transfer-beat reads past c.args.kept.now c.args.place c.args.port c.args.id c.in-Some.read c.args.word kept places here (omega (arith, low, here))
    (sym (c.reading_of.ensures past kept.reads) ∙ c.in-Some.is) (sym c.is_line_read.ensures ∙ c.if-not-is_line_read.false)
