use Rattle.std.proofs.Common.{take}
use Rattle.ace_model.specs.Plans.{Plan}
use Rattle.ace_model.specs.Trace.{Trace}
use Rattle.ace_runs.specs.Bursts.{onto}
use Rattle.ace_engine.specs.Engines.{IsLegal}
use Rattle.ace_home.specs.Home.{HomeStands}
use Rattle.ace_home_tests.proofs.home.hear_all.Given as goal

-- it stands for the trace with the events so far
abbrev pub invariant-loop-event : goal.invariant-loop-event
invariant-loop-event l =
    (plan : Plan) (past : Trace) → HomeStands l.initial.home plan past → IsLegal plan (onto l.events past) → HomeStands l.home plan (onto (take l.event-index l.events) past)
