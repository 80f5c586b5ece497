use Rattle.std.proofs.Common.{◌≡◌, true, List, [], ◌∷◌, refl, subst, arith, rules}
use Rattle.ace_event.specs.declared.event.Event.{Event}
use Rattle.ace_model.specs.declared.plans.Op.TheVariants as op
use Rattle.ace_model.specs.Plans.{Plan}
use Rattle.ace_runs.specs.Bursts.{onto}
use Rattle.ace_engine.specs.Engines.{IsLegal}
use Rattle.ace_order.specs.Order.{OrderStands}
use Rattle.ace_engine_tests.specs.Order.{are_others, barrier_events, plan_of}
use Rattle.ace_engine_tests.proofs.OrderWorked.{barrier-legal}
use Rattle.ace_engine_tests.proofs.order.answers_a_barrier.Goals as goal

abbrev plan : Plan
plan = plan_of op.Sb

pub turn-requires-clause-stands : goal.turn-requires-clause-stands
turn-requires-clause-stands g c =
    let both : c.ar.result ∷ c.aw.result ∷ [] ≡ barrier_events = rw (c.ar.ensures, c.aw.ensures) refl in (
      plan,
      onto barrier_events [],
      subst (λ (es : List Event). IsLegal plan (onto es []) → are_others [] es ≡ true → OrderStands c.hear_all.new.order plan (onto es []))
          both (c.hear_all.ensures plan [] c.in_ok-order.ensures) barrier-legal refl,
      omega arith,
    )

-- after the first turn the engine stands for the trace with its burst
pub turn-again-requires-clause-stands : goal.turn-again-requires-clause-stands
turn-again-requires-clause-stands g c =
    let both : c.ar.result ∷ c.aw.result ∷ [] ≡ barrier_events = rw (c.ar.ensures, c.aw.ensures) refl in
    let stands = subst (λ (es : List Event). IsLegal plan (onto es []) → are_others [] es ≡ true → OrderStands c.hear_all.new.order plan (onto es []))
    both (c.hear_all.ensures plan [] c.in_ok-order.ensures) barrier-legal refl in
    let moved : c.turn.result ≡ true = search rules in
    (plan, onto c.turn.new.out (onto barrier_events []), c.turn.ensures.stands moved plan (onto barrier_events []) stands, omega arith)
