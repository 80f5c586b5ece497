use Rattle.std.proofs.Common.{◌<◌, ◌++◌, ◌∷◌, [], List, false, length, take, sym, ap, ◌∙◌, append_assoc, length-append, length-take, arith}
use Rattle.std.proofs.Math.ListN.{get_or}
use Rattle.std.proofs.lemmas.List.{take_more}
use Rattle.ace_event.specs.declared.event.Event.{Event}
use Rattle.ace_event.specs.declared.event.Event.TheVariants.{Ar}
use Rattle.ace_master.proofs.pushing.push_all.Goals as goal

pub push-requires : goal.push-requires
push-requires c =
    let long = ap length c.loop-event.invariant ∙ length-append c.args.out.now (take c.loop-event.event-index c.args.events.now) in
    let taken = length-take c.loop-event.event-index c.args.events.now in
    let room = c.requires in
    omega (arith, long, taken, room)

pub loop-event-preserved : goal.loop-event-preserved
loop-event-preserved c =
    let xs = c.args.events.now in
    let i = c.loop-event.event-index in
    let d : Event = Ar 0 0 0 0 0 0 false in
    let low : i < length xs = omega arith in
    c.push.ensures ∙ ap (λ (es : List Event). es ++ get_or xs i d ∷ []) c.loop-event.invariant ∙ append_assoc c.args.out.now (take i xs) (get_or xs i d ∷ [])
    ∙ ap (λ (es : List Event). c.args.out.now ++ es) (sym (take_more xs i d low))
