use Rattle.std.proofs.Common.{Some, sym, ap, ◌∙◌}
use Rattle.ace_cert.proofs.WalkReads.{shown}
use Rattle.ace_cert.proofs.verification.reads.shown_by_transfer.Goals as goal

pub returns-then-is_line_read : goal.returns-then-is_line_read
returns-then-is_line_read c = λ past kept few.
    ap (λ n. Some n) c.saturating_add.ensures ∙ shown past c.args.port c.args.id c.in-Some.read few (sym (c.reading_of.ensures past kept.reads) ∙ c.in-Some.is) (sym c.is_line_read.ensures ∙ c.if-is_line_read.true)
