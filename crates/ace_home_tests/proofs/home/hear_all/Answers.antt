use Rattle.std.proofs.Common.{◌<◌, false, length, take, sym, subst, arith}
use Rattle.ace_event.specs.declared.event.Event.{Event}
use Rattle.ace_event.specs.declared.event.Event.TheVariants.{Ar}
use Rattle.ace_runs.specs.Bursts.{onto}
use Rattle.ace_engine.proofs.Heard.{legal-next, onto-next}
use Rattle.ace_home.specs.Home.{HomeStands}
use Rattle.ace_home_tests.proofs.home.hear_all.Goals as goal

pub loop-event-preserved : goal.loop-event-preserved
loop-event-preserved c = λ plan past s legal.
    let xs = c.args.events.now in
    let i = c.loop-event.event-index in
    let d : Event = Ar 0 0 0 0 0 0 false in
    let low : i < length xs = omega arith in
    subst (HomeStands c.note.new.self plan) (sym (onto-next xs i d past low))
    (c.note.ensures plan (onto (take i xs) past) (c.loop-event.invariant plan past s legal) (legal-next plan xs i d past low legal))
