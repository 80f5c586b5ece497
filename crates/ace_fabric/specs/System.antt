-- The start of the run of a script.
use Rattle.std.specs.Prelude.{◌≡◌, ◌≢◌, ℕ, Bool, true, false, ◌==◌, List, []}
use Rattle.ace_model.specs.declared.plans.PolicyWord.{PolicyWord}
use Rattle.ace_model.specs.declared.plans.PolicyWord.TheVariants.{Mixed}
use Rattle.ace_model.specs.Plans.{Plan, PlanWithRoom}
use Rattle.ace_model.specs.Trace.{Trace}
use Rattle.ace_engine.specs.declared.engine.Engine.{Ghosts}
use Rattle.ace_fabric.specs.Runs.{Run}

-- the masters answer snoops by any permitted row
abbrev pub is_mixed : PolicyWord → Bool
is_mixed (Mixed n) = true
is_mixed _ = false

-- where there are numbers by which masters pick rows, the policy of the plan allows any row
abbrev pub MayPick : Plan → List ℕ → Type 0
MayPick plan picks = picks ≢ [] → is_mixed plan.policy ≡ true

-- before the first step
abbrev pub starting : PlanWithRoom → Run
starting view = record { plan = view.plan; room = view.room; past = [] }

-- the plan of the run, and its room
abbrev pub plan_of : Run → PlanWithRoom
plan_of run = record { plan = run.plan; room = run.room }

-- It is the master of the port, and stands for the plan and the trace.
pub record IsMasterOf {E : Type 0} (g : Ghosts E) (plan : Plan)
    (past : Trace) (port : ℕ) (master : E) : Type 0 where
  pub serves : (p : ℕ) → g.serves master p ≡ (p == port)
  pub stands : g.stands master plan past
