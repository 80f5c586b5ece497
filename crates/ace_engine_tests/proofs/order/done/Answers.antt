use Rattle.std.proofs.Common.{◌≡◌, true, false, List, [], ◌∷◌, ◌++◌, refl, subst, arith}
use Rattle.ace_codes.specs.declared.state.LineState.TheVariants.{I}
use Rattle.ace_event.specs.declared.event.Event.{Event}
use Rattle.ace_event.specs.declared.event.Event.TheVariants.{Ar, R, Rk}
use Rattle.ace_model.specs.declared.plans.Op.TheVariants as op
use Rattle.ace_model.specs.Plans.{Plan}
use Rattle.ace_model.specs.Trace.{Trace}
use Rattle.ace_runs.specs.Bursts.{onto}
use Rattle.ace_engine.specs.Engines.{IsLegal}
use Rattle.ace_engine.proofs.Heard.{legal-between}
use Rattle.ace_order.specs.Order.{OrderStands}
use Rattle.ace_engine_tests.specs.Order.{are_others, completion_done, plan_of, sync_answered, sync_done, sync_issued}
use Rattle.ace_engine_tests.proofs.OrderWorked.{sync-legal}
use Rattle.ace_engine_tests.proofs.order.done.Goals as goal

abbrev plan : Plan
plan = plan_of (op.Sync 49152)

abbrev heard : Trace
heard = R 0 0 0 true 0 ∷ onto (sync_issued ++ sync_answered) []

pub puts-requires : goal.puts-requires
puts-requires c = (plan, onto (sync_issued ++ sync_answered) [], c.in_ok-order.ensures, omega arith)

pub returns : goal.returns
returns c =
    let responded : OrderStands c.puts.new.order plan heard =
    subst (λ (e : Event). OrderStands c.puts.new.order plan (e ∷ onto (sync_issued ++ sync_answered) [])) c.r.ensures
    (c.in_ok-puts.ensures plan (onto (sync_issued ++ sync_answered) []) c.in_ok-order.ensures) in
    let legal = legal-between plan (sync_issued ++ sync_answered ++ sync_done) completion_done [] sync-legal in
    let both : c.rk.result ∷ c.ar.result ∷ [] ≡ Rk 0 I ∷ Ar 1 0 0 14 1 0 false ∷ [] = rw (c.rk.ensures, c.ar.ensures) refl in
    subst (λ (es : List Event). IsLegal plan (onto es heard) → are_others heard es ≡ true → OrderStands c.hear_all.new.order plan (onto es heard))
    both (c.hear_all.ensures plan heard responded) legal refl
