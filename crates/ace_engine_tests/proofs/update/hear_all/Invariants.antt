use Rattle.std.proofs.Common.{◌≡◌, true, take}
use Rattle.ace_model.specs.Plans.{Plan}
use Rattle.ace_model.specs.Trace.{Trace}
use Rattle.ace_runs.specs.Bursts.{onto}
use Rattle.ace_engine.specs.Engines.{IsLegal}
use Rattle.ace_update.specs.Update.{UpdateStands}
use Rattle.ace_engine_tests.specs.Update.{are_others}
use Rattle.ace_engine_tests.proofs.update.hear_all.Given as goal

-- it stands for the trace with the events so far
abbrev pub invariant-loop-event : goal.invariant-loop-event
invariant-loop-event l =
    (plan : Plan) (past : Trace) → UpdateStands l.initial.update plan past → IsLegal plan (onto l.events past) → are_others past l.events ≡ true
    → UpdateStands l.update plan (onto (take l.event-index l.events) past)
