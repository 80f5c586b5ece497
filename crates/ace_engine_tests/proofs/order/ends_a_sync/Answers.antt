use Rattle.std.proofs.Common.{true, [], ◌∷◌, ◌++◌, subst, arith}
use Rattle.ace_event.specs.declared.event.Event.{Event}
use Rattle.ace_event.specs.declared.event.Event.TheVariants.{R}
use Rattle.ace_model.specs.declared.plans.Op.TheVariants as op
use Rattle.ace_model.specs.Plans.{Plan}
use Rattle.ace_model.specs.Trace.{Trace}
use Rattle.ace_runs.specs.Bursts.{onto}
use Rattle.ace_order.specs.Order.{OrderStands}
use Rattle.ace_engine_tests.specs.Order.{plan_of, sync_answered, sync_done, sync_issued}
use Rattle.ace_engine_tests.proofs.order.ends_a_sync.Goals as goal

abbrev plan : Plan
plan = plan_of (op.Sync 49152)

abbrev heard : Trace
heard = onto (sync_issued ++ sync_answered ++ sync_done) []

-- after the first turn the engine stands for the trace with its R
pub puts-requires-2 : goal.puts-requires-2
puts-requires-2 c = (
  plan,
  R 1 0 0 true 0 ∷ heard,
  subst (λ (e : Event). OrderStands c.puts.new.order plan (e ∷ heard)) c.r.ensures (c.in_ok-puts.ensures plan heard c.in_ok-order.ensures),
  omega arith,
)
