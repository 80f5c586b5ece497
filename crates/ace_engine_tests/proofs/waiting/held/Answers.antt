use Rattle.std.proofs.Common.{◌≡◌, true, [], ◌∷◌, refl, subst}
use Rattle.ace_model.specs.Plans.{Plan}
use Rattle.ace_runs.specs.Bursts.{onto}
use Rattle.ace_engine.specs.Engines.{IsLegal}
use Rattle.ace_engine.proofs.Heard.{legal-between}
use Rattle.ace_order.specs.Order.{OrderStands}
use Rattle.ace_engine_tests.specs.Order.{are_others}
use Rattle.ace_engine_tests.specs.Waiting.{waiting_events, waiting_plan, write_done}
use Rattle.ace_engine_tests.proofs.WaitingWorked.{waiting-legal}
use Rattle.ace_engine_tests.proofs.waiting.held.Goals as goal

pub returns : goal.returns
returns c =
    let begun : OrderStands c.in_ok-order.order waiting_plan [] = subst (λ (v : Plan). OrderStands c.in_ok-order.order v []) c.in_ok-plan.ensures c.in_ok-order.ensures in
    let events : c.aw.result ∷ c.op.result ∷ c.w.result ∷ c.w-2.result ∷ c.w-3.result ∷ c.w-4.result ∷ c.read_half.result ∷ c.aw-2.result ∷ [] ≡ waiting_events =
    rw (c.aw.ensures, c.op.ensures, c.w.ensures, c.w-2.ensures, c.w-3.ensures, c.w-4.ensures, c.read_half.ensures, c.aw-2.ensures) refl in
    subst (λ es. OrderStands c.in_ok-order.order waiting_plan [] → IsLegal waiting_plan (onto es []) → are_others [] es ≡ true → OrderStands c.hear_all.new.order waiting_plan (onto es []))
    events (c.hear_all.ensures waiting_plan []) begun (legal-between waiting_plan waiting_events write_done [] waiting-legal) refl
