use Rattle.std.proofs.Common.{◌≡◌, ◌<◌, ◌≤◌, List, Some, arith, false, get_or, length, reverse, slice_get, subst, sym, ap, ◌∙◌}
use Rattle.std.proofs.lemmas.List.{length-reverse, reverse-reverse}
use Rattle.std.proofs.lemmas.Option.{slice_get-get_or}
use Rattle.ace_event.specs.declared.event.Event.{Event}
use Rattle.ace_event.specs.declared.event.Event.TheVariants.{Ar}
use Rattle.ace_model.specs.Trace.{Trace, at_point, event_at}
use Rattle.ace_model.proofs.Trace.Growth.{at_point-end}
use Rattle.ace_model.proofs.Trace.Places.{at_point-length, event-accepted}
use Rattle.ace_cert_make.specs.Stands.{Hears}
use Rattle.ace_cert_make.proofs.Points.{point-next, point-start}
use Rattle.ace_cert_make.proofs.whole.make.Goals as goal

pub loop-event-init : goal.loop-event-init
loop-event-init c =
    subst (λ (t : Trace). Hears c.in-Ok.ports c.new-maker.result c.args.header.now t) (sym (point-start (reverse c.args.trace.now)))
    (record { tell = c.in-Ok.ensures c.requires.header; stands = c.new-maker.ensures; fits = tt })

pub loop-event-preserved : goal.loop-event-preserved
loop-event-preserved c =
    let xs = c.args.trace.now in
    let k = c.loop-event.event-index in
    let d : Event = Ar 0 0 0 0 0 0 false in
    let low : k < length xs = c.loop-event-test.true in
    let there : event_at (reverse xs) k ≡ Some (get_or xs k d) = ap (λ (t : List Event). slice_get t k) (reverse-reverse xs) ∙ slice_get-get_or xs k d low in
    let long = length-reverse xs in
    let few = c.requires.few in
    let within : k ≤ length (reverse xs) = omega (arith, low, long) in
    let size = at_point-length (reverse xs) k within in
    subst (λ (t : Trace). Hears c.hear_next.new.ports c.hear_next.new.maker c.args.header.now t) (sym (point-next (reverse xs) k (get_or xs k d) there))
    (c.in-Ok-hear_next.ensures c.args.header.now (at_point k (reverse xs)) c.loop-event.invariant
    (record { accepted = event-accepted c.args.header.now (reverse xs) k (get_or xs k d) c.requires.accepted there; few = omega (arith, low, few, size) }))

pub returns : goal.returns
returns c =
    let xs = c.args.trace.now in
    let k = c.loop-event.event-index in
    let long = length-reverse xs in
    let all : k ≡ length (reverse xs) = omega (arith, long, c.loop-event-test.false, c.loop-event.auto.event-index-end) in
    let heard = subst (λ (t : Trace). Hears c.loop-event.ports c.loop-event.maker c.args.header.now t)
    (at_point-end (reverse xs) k all) c.loop-event.invariant in
    c.finish.ensures c.args.header.now (reverse xs) heard.stands c.requires.accepted heard.fits
