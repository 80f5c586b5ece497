use Rattle.std.proofs.Common.{sym, ap, ◌∙◌}
use Rattle.ace_event.specs.declared.event.Channel.TheVariants.{Write}
use Rattle.ace_cert.specs.Walk.{burst_in}
use Rattle.ace_cert.proofs.WalkBursts.{written-is}
use Rattle.ace_cert.proofs.WalkChanges.{m-changes}
use Rattle.ace_cert.proofs.WalkReads.{writing-parts}
use Rattle.ace_cert.proofs.verification.changes.written_for_write.Goals as goal

pub returns-in-Some : goal.returns-in-Some
returns-in-Some c = λ past kept few l.
    let write = c.in-Some.write in
    let parts = writing-parts past c.args.port c.args.id write (sym (c.writing_of.ensures past kept.writes) ∙ c.in-Some.is) in
    rw c.by_memory_write.ensures
    (m-changes past c.args.port Write c.args.id c.args.line write.transaction c.burst_in-burst.result l parts.0
    (λ stores v. written-is past c.args.kept.now.beats c.args.port c.args.id write v kept.beats few parts.0 parts.1 c.burst_in-burst.result
    (c.burst_in-burst.ensures ∙ ap (burst_in c.args.kept.now.beats c.args.port) c.first_beat-first.ensures)))
