use Rattle.ace_cert.proofs.WalkHear.{heard-all, on-ok}
use Rattle.ace_cert.proofs.verification.hear.Goals as goal

pub returns-clause-kept : goal.returns-clause-kept
returns-clause-kept c = λ reads past kept places here.
    on-ok c.hear_counts.result
    (λ counts. heard-all reads past c.args.event.now c.change_of-change.result c.seen_at-seen.result c.earlier_writes-earlier.result c.args.place c.args.kept.now _ here c.requires.few
    c.every_id_is_a_byte.ensures kept places (c.change_of-change.ensures past kept here) (c.seen_at-seen.ensures past kept here) c.in-Ok.ensures c.in-Ok-change_line.ensures.changed
    c.in-Ok-hear_reads.ensures c.in-Ok-hear_writes.ensures c.earlier_writes-earlier.ensures c.in-Ok-hear_beats.ensures counts) c.hear_counts.ensures
