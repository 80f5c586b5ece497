use Rattle.std.proofs.Common.{sym, ◌∙◌}
use Rattle.ace_event.specs.declared.event.Channel.TheVariants.{Read}
use Rattle.ace_cert.proofs.WalkChanges.{m-changes}
use Rattle.ace_cert.proofs.WalkReads.{no-data, reading-parts}
use Rattle.ace_cert.proofs.verification.changes.written_for_read.Goals as goal

pub returns-in-Some : goal.returns-in-Some
returns-in-Some c = λ past kept l.
    let read = c.in-Some.read in
    let parts = reading-parts past c.args.port c.args.id read (sym (c.reading_of.ensures past kept.reads) ∙ c.in-Some.is) in
    rw c.by_memory_write.ensures
    (m-changes past c.args.port Read c.args.id c.args.line read.transaction (record { strobe = 0; line = c.args.line }) l parts.0
    (λ stores v. absurd (no-data past c.args.port c.args.id read.transaction parts.0 stores)))
