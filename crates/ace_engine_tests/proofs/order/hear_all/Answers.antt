use Rattle.std.proofs.Common.{◌<◌, false, length, take, sym, subst, ◌∙◌, arith}
use Rattle.ace_event.specs.declared.event.Event.{Event}
use Rattle.ace_event.specs.declared.event.Event.TheVariants.{Ar}
use Rattle.ace_runs.specs.Bursts.{onto}
use Rattle.ace_order.specs.Order.{OrderStands}
use Rattle.ace_engine.proofs.Heard.{legal-next, onto-next}
use Rattle.ace_engine_tests.proofs.OrderWorked.{other-next, same-for-all}
use Rattle.ace_engine_tests.proofs.order.hear_all.Goals as goal

pub loop-event-preserved : goal.loop-event-preserved
loop-event-preserved c = λ plan past s legal others.
    let xs = c.args.events.now in
    let i = c.loop-event.event-index in
    let d : Event = Ar 0 0 0 0 0 0 false in
    let low : i < length xs = omega arith in
    subst (OrderStands c.hear.new.self plan) (sym (onto-next xs i d past low))
    (c.hear.ensures.stands plan (onto (take i xs) past) (c.loop-event.invariant plan past s legal others) (legal-next plan xs i d past low legal)
    (λ p t. same-for-all (onto (take i xs) past) p _ ∙ other-next xs i d past low others))
