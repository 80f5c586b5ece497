use Rattle.std.proofs.Common.{◌≡◌, true, take}
use Rattle.ace_model.specs.Plans.{Plan}
use Rattle.ace_model.specs.Trace.{Trace}
use Rattle.ace_runs.specs.Bursts.{onto}
use Rattle.ace_engine.specs.Engines.{IsLegal}
use Rattle.ace_order.specs.Order.{OrderStands}
use Rattle.ace_engine_tests.specs.Order.{are_others}
use Rattle.ace_engine_tests.proofs.order.hear_all.Given as goal

-- it stands for the trace with the events so far
abbrev pub invariant-loop-event : goal.invariant-loop-event
invariant-loop-event l =
    (plan : Plan) (past : Trace) → OrderStands l.initial.order plan past → IsLegal plan (onto l.events past) → are_others past l.events ≡ true
    → OrderStands l.order plan (onto (take l.event-index l.events) past)
