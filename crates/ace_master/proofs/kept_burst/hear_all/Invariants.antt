use Rattle.std.proofs.Common.{ℕ, take}
use Rattle.ace_model.specs.Plans.{Plan}
use Rattle.ace_model.specs.Trace.{Trace}
use Rattle.ace_runs.specs.Bursts.{onto}
use Rattle.ace_engine.specs.Engines.{IsLegal}
use Rattle.ace_master_state.specs.Kept.{KeptStands}
use Rattle.ace_master.specs.AceEvents.{HaveLowIds}
use Rattle.ace_master.proofs.kept_burst.hear_all.Given as goal

-- the events so far are heard
abbrev pub invariant-loop-i : goal.invariant-loop-i
invariant-loop-i l =
    (plan : Plan) (past : Trace) (p : ℕ) → KeptStands plan past p l.initial.kept → IsLegal plan (onto l.burst past) → HaveLowIds l.burst → KeptStands plan (onto (take l.i l.burst) past) p l.kept
