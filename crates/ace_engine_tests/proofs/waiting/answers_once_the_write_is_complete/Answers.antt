use Rattle.std.proofs.Common.{◌≡◌, true, false, [], ◌∷◌, refl, sym, subst, arith, rules}
use Rattle.ace_runs.specs.Bursts.{onto}
use Rattle.ace_engine.specs.Engines.{IsLegal}
use Rattle.ace_order.specs.Order.{OrderStands}
use Rattle.ace_order.specs.declared.order.Order.{Order}
use Rattle.ace_engine_tests.specs.Order.{are_others}
use Rattle.ace_engine_tests.specs.Waiting.{waiting_events, waiting_plan, write_done}
use Rattle.ace_engine_tests.proofs.WaitingWorked.{waiting-legal, write-others}
use Rattle.ace_engine_tests.proofs.waiting.answers_once_the_write_is_complete.Goals as goal

pub turn-early-requires-clause-stands : goal.turn-early-requires-clause-stands
turn-early-requires-clause-stands g c = (waiting_plan, onto waiting_events [], c.in_ok-order.ensures, omega arith)

pub turn-requires-clause-stands : goal.turn-requires-clause-stands
turn-requires-clause-stands g c =
    let early : c.turn-early.result ≡ false = search rules in
    let still : OrderStands c.turn-early.new.self waiting_plan (onto waiting_events []) =
    subst (λ (v : Order). OrderStands v waiting_plan (onto waiting_events [])) (sym (c.turn-early.ensures.unchanged early).0) c.in_ok-order.ensures in
    let events : c.granted.result ∷ c.written.result ∷ c.b.result ∷ c.wk.result ∷ [] ≡ write_done = rw (c.granted.ensures, c.written.ensures, c.b.ensures, c.wk.ensures) refl in
    let stands = subst (λ es. IsLegal waiting_plan (onto es (onto waiting_events [])) → are_others (onto waiting_events []) es ≡ true
    → OrderStands c.hear_all.new.order waiting_plan (onto es (onto waiting_events [])))
    events (c.hear_all.ensures waiting_plan (onto waiting_events []) still) waiting-legal write-others in
    (waiting_plan, onto write_done (onto waiting_events []), stands, omega arith)
