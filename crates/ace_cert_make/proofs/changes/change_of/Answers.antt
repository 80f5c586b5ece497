use Rattle.std.proofs.Common.{subst}
use Rattle.ace_event.specs.declared.event.Event.{Event}
use Rattle.ace_portck.specs.Targets.{Recording}
use Rattle.ace_cert_make.specs.Next.{IsNext}
use Rattle.ace_cert_make.proofs.Steps.{answered-step, discarded-step, granted-step, not-change, stored-step, unchanged-step, written-step}
use Rattle.ace_cert_make.proofs.changes.change_of.Goals as goal

pub returns-in-G : goal.returns-in-G
returns-in-G c = λ h past s n l.
    let r : Recording = record { header = h; past = past } in
    let m = c.in-G in
    rw (m.is, c.granting.ensures, c.outstanding.ensures r s)
    (granted-step h past l m.port m.chan m.id (subst (λ (e : Event). IsNext h past e) m.is n).accepted)

pub returns-in-M : goal.returns-in-M
returns-in-M c = λ h past s n l.
    let r : Recording = record { header = h; past = past } in
    let m = c.in-M in
    rw (m.is, c.writing.ensures, c.outstanding-in-M.ensures r s)
    (written-step h past l m.port m.chan m.id m.line (subst (λ (e : Event). IsNext h past e) m.is n).accepted)

pub returns-in-R : goal.returns-in-R
returns-in-R c = λ h past s n l.
    let r : Recording = record { header = h; past = past } in
    let m = c.in-R in
    rw (m.is, c.discarding.ensures, c.outstanding-in-R.ensures r s)
    (discarded-step h past l m.port m.id m.resp m.last m.word (subst (λ (e : Event). IsNext h past e) m.is n).accepted)

pub returns-in-D : goal.returns-in-D
returns-in-D c = λ h past s n l. rw c.in-D.is (stored-step h past l c.in-D.port c.in-D.addr c.in-D.strobe c.in-D.x c.in-D.line)

pub returns-in-Cr : goal.returns-in-Cr
returns-in-Cr c = λ h past s n l.
    let r : Recording = record { header = h; past = past } in
    let m = c.in-Cr in
    rw (m.is, c.answering.ensures, c.answered.ensures r s) (answered-step h past l m.port m.resp m.st)

pub returns-in_default : goal.returns-in_default
returns-in_default c = λ h past s n l.
    unchanged-step past c.args.event.now l
    (not-change c.args.event.now c.in_default.not-G c.in_default.not-M c.in_default.not-R c.in_default.not-D c.in_default.not-Cr)
