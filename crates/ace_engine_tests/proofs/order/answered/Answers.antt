use Rattle.std.proofs.Common.{◌≡◌, true, [], ◌∷◌, ◌++◌, refl, subst, arith}
use Rattle.ace_event.specs.declared.event.Event.{Event}
use Rattle.ace_event.specs.declared.event.Event.TheVariants.{Ac}
use Rattle.ace_model.specs.declared.plans.Op.TheVariants as op
use Rattle.ace_model.specs.Plans.{Plan}
use Rattle.ace_model.specs.Trace.{Trace}
use Rattle.ace_runs.specs.Bursts.{onto}
use Rattle.ace_engine.specs.Engines.{IsLegal}
use Rattle.ace_engine.proofs.Heard.{legal-between}
use Rattle.ace_order.specs.Order.{OrderStands}
use Rattle.ace_engine_tests.specs.Order.{are_others, completion_done, plan_of, sync_answered, sync_done, sync_issued}
use Rattle.ace_engine_tests.proofs.OrderWorked.{sync-legal}
use Rattle.ace_engine_tests.proofs.order.answered.Goals as goal

abbrev plan : Plan
plan = plan_of (op.Sync 49152)

abbrev heard : Trace
heard = Ac 1 49152 15 ∷ onto sync_issued []

pub puts-requires : goal.puts-requires
puts-requires c = (plan, onto sync_issued [], c.in_ok-order.ensures, omega arith)

pub returns : goal.returns
returns c =
    let forwarded : OrderStands c.puts.new.order plan heard =
    subst (λ (e : Event). OrderStands c.puts.new.order plan (e ∷ onto sync_issued [])) c.ac.ensures (c.in_ok-puts.ensures plan (onto sync_issued []) c.in_ok-order.ensures) in
    let legal = legal-between plan (sync_issued ++ sync_answered) (sync_done ++ completion_done) [] sync-legal in
    subst (λ (e : Event). IsLegal plan (e ∷ heard) → are_others heard (e ∷ []) ≡ true → OrderStands c.hear_all.new.order plan (e ∷ heard))
    c.cr.ensures (c.hear_all.ensures plan heard forwarded) legal refl
