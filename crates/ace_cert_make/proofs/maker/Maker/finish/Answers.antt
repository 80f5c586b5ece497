use Rattle.ace_cert_make.proofs.Made.{made-certificate}
use Rattle.ace_cert_make.proofs.maker.Maker.finish.Goals as goal

pub returns-in-Ok-list_reads : goal.returns-in-Ok-list_reads
returns-in-Ok-list_reads c = λ h past s a range.
    made-certificate h past a range c.args.self.lines c.args.self.reads _ c.list_lines.ensures.ordered
    c.list_reads.ensures.ordered s.lines s.reads c.in-Ok.ensures.listed
    c.in-Ok-list_reads.ensures.listed
