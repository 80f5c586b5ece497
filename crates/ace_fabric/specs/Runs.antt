-- A run as it is seen, what is kept of it, and what turns of ports and a longer plan make of it.
use Rattle.std.specs.Prelude.{ℕ, ◌≡◌, ◌≤◌, ◌+◌, ◌-◌, ◌*◌, ◌%◌, ◌⊎◌, false, List, [], ◌∷◌, length}
use Rattle.ace_event.specs.declared.event.Event.{Event}
use Rattle.ace_model.specs.declared.plans.PlanOp.{PlanOp}
use Rattle.ace_model.specs.Plans.{Plan, PlanWithRoom, longer}
use Rattle.ace_model.specs.Trace.{Trace}
use Rattle.ace_runs.specs.Bursts.{onto}
use Rattle.ace_runs.specs.Steps.{IsStep, is_enabled}
use Rattle.ace_engine.specs.declared.engine.Engine.{Ghosts}
use Rattle.ace_fabric.specs.Idle.{AreIdle}
use Rattle.ace_fabric.specs.Left.{LeftStands}
use Rattle.ace_fabric.specs.Parts.{AreEngines}
use Rattle.ace_fabric.specs.declared.idle.IdlePorts.{IdlePorts}
use Rattle.ace_fabric.specs.declared.left.Left.{Left}

-- A plan, how many more operations there is room for, and the trace of its run so far.
pub record Run : Type 0 where
  pub plan : Plan
  pub room : ℕ
  pub past : Trace

-- there is room for so many events
abbrev pub events_of : PlanWithRoom → ℕ
events_of view = (length view.plan.operations + view.room) * 256

-- The engines are those of the run, there is room for each event that it can have, and what is kept
-- of it tells what is left to do, and of which ports none is enabled.
pub record IsRunning {H U O M : Type 0} (h : Ghosts H) (u : Ghosts U) (o : Ghosts O) (m : Ghosts M)
    (view : PlanWithRoom) (past : Trace) (capacity : ℕ) (home : H) (update : U) (order : O)
    (masters : List M) (left : Left) (idle : IdlePorts) : Type 0 where
  pub engines : AreEngines h u o m view.plan past home update order masters
  pub room : events_of view ≤ capacity
  pub left_is : LeftStands left view.plan past
  pub idle_are : AreIdle view.plan past idle

-- the run with these events at its end
abbrev pub continued : List Event → Run → Run
continued events run = record run { past = onto events run.past }

-- the run with one more operation at the end of its plan, for which it has room
abbrev pub grown : PlanOp → Run → Run
grown o run = record run { plan = longer run.plan o; room = run.room - 1 }

-- The turn of the port put a step, or nothing, as the port isn't enabled.
abbrev pub IsTurnOf : Plan → Trace → ℕ → List Event → Type 0
IsTurnOf plan past p burst =
    IsStep plan past p burst ⊎ ((burst ≡ []) × (is_enabled plan past p ≡ false))

-- The events are those of a turn for each of the numbers, one after the other, each of the port of
-- the number modulo the number of ports.
abbrev pub AreTurnsBy : Plan → List ℕ → Trace → Trace → Type 0
AreTurnsBy plan [] past now = now ≡ past
AreTurnsBy plan (n ∷ numbers) past now =
    (burst : List Event) × IsTurnOf plan past (n % plan.header.ports) burst
    × AreTurnsBy plan numbers (onto burst past) now
