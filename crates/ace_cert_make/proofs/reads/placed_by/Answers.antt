use Rattle.std.proofs.Common.{◌≡◌, ◌+◌, ◌-◌, arith, ap, length, refl, subst, sym, ◌∙◌}
use Rattle.ace_event.specs.declared.event.Event.{Event}
use Rattle.ace_portck.specs.Targets.{Recording}
use Rattle.ace_cert_make.specs.Next.{IsNext}
use Rattle.ace_cert_make.specs.Tracks.{IsEarly, place_of_beat}
use Rattle.ace_cert_make.proofs.Placed.{beat-early, beat-place, not-placed}
use Rattle.ace_cert_make.proofs.reads.placed_by.Goals as goal

pub returns-in-L : goal.returns-in-L
returns-in-L c = λ h past t s n number.
    let back : length past + 1 - 1 ≡ length past = omega arith in
    rw (c.in-L.is, c.one_less.ensures, number, back) refl

pub returns-in-R : goal.returns-in-R
returns-in-R c = λ h past t s n number.
    let r : Recording = record { header = h; past = past } in
    let m = c.in-R in
    let next = subst (λ (e : Event). IsNext h past e) m.is n in
    let out = c.outstanding.ensures r t in
    let early = subst IsEarly (sym out) (beat-early h past m.port m.id m.resp m.last m.word next) in
    rw m.is (c.place_of_beat.ensures early ∙ ap (λ o. place_of_beat o c.args.lines.now) out
    ∙ beat-place h past m.port m.id m.resp m.last m.word next c.args.lines.now s)

pub returns-in_default : goal.returns-in_default
returns-in_default c = λ h past t s n number. sym (not-placed past c.args.event.now c.in_default.not-L c.in_default.not-R)
