use Rattle.std.proofs.Common.{◌≡◌, true, List, [], ◌∷◌, refl, subst, arith}
use Rattle.ace_event.specs.declared.event.Event.{Event}
use Rattle.ace_model.specs.declared.plans.Op.TheVariants as op
use Rattle.ace_model.specs.Plans.{Plan}
use Rattle.ace_runs.specs.Bursts.{onto}
use Rattle.ace_engine.specs.Engines.{IsLegal}
use Rattle.ace_order.specs.Order.{OrderStands}
use Rattle.ace_engine_tests.specs.Order.{are_others, message_events, plan_of}
use Rattle.ace_engine_tests.proofs.OrderWorked.{message-legal}
use Rattle.ace_engine_tests.proofs.order.forwards_both_parts.Goals as goal

abbrev plan : Plan
plan = plan_of (op.Dvm2 4097 305419896)

pub puts-requires : goal.puts-requires
puts-requires c =
    let both : c.ar.result ∷ c.ar-2.result ∷ [] ≡ message_events = rw (c.ar.ensures, c.ar-2.ensures) refl in (
      plan,
      onto message_events [],
      subst (λ (es : List Event). IsLegal plan (onto es []) → are_others [] es ≡ true → OrderStands c.hear_all.new.order plan (onto es []))
          both (c.hear_all.ensures plan [] c.in_ok-order.ensures) message-legal refl,
      omega arith,
    )
