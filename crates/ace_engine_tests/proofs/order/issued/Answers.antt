use Rattle.std.proofs.Common.{◌≡◌, true, [], ◌∷◌, ◌++◌, refl, subst}
use Rattle.ace_model.specs.declared.plans.Op.TheVariants as op
use Rattle.ace_runs.specs.Bursts.{onto}
use Rattle.ace_engine.specs.Engines.{IsLegal}
use Rattle.ace_engine.proofs.Heard.{legal-between}
use Rattle.ace_order.specs.Order.{OrderStands}
use Rattle.ace_engine_tests.specs.Order.{are_others, completion_done, plan_of, sync_answered, sync_done, sync_issued}
use Rattle.ace_engine_tests.proofs.OrderWorked.{sync-legal, sync-right}
use Rattle.ace_engine_tests.proofs.order.issued.Goals as goal

pub engine_for-requires : goal.engine_for-requires
engine_for-requires c = sync-right

pub returns : goal.returns
returns c =
    let one : c.ar.result ∷ [] ≡ sync_issued = rw c.ar.ensures refl in
    let legal = legal-between (plan_of (op.Sync 49152)) sync_issued (sync_answered ++ sync_done ++ completion_done) [] sync-legal in
    subst (λ es. IsLegal (plan_of (op.Sync 49152)) (onto es []) → are_others [] es ≡ true → OrderStands c.hear_all.new.order (plan_of (op.Sync 49152)) (onto es []))
    one (c.hear_all.ensures (plan_of (op.Sync 49152)) [] c.in_ok-order.ensures) legal refl
