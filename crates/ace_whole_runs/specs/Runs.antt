-- When a trace is that of a whole run of a plan.
use Rattle.std.specs.Prelude.{ℕ, ◌≡◌, ◌≤◌, ◌*◌, List, [], ◌∷◌, length}
use Rattle.ace_model.specs.Accepted.{IsAccepted}
use Rattle.ace_model.specs.Plans.{Plan}
use Rattle.ace_model.specs.Trace.{Trace}
use Rattle.ace_runs.specs.Bursts.{onto}
use Rattle.ace_runs.specs.Follows.{Follows}
use Rattle.ace_runs.specs.Steps.{AreSteps, Turn}
use Rattle.ace_home.specs.Among.{HasHolders, IsStepAmong, PortSets}

-- The trace is that of a run of the plan: it is accepted, follows the whole plan, is a list of
-- steps, and has at most 256 events for each operation.
pub record IsRunOf (plan : Plan) (past : Trace) : Type 0 where
  pub accepted : IsAccepted plan.header past
  pub follows : Follows plan past
  pub steps : AreSteps plan past
  pub few : length past ≤ length plan.operations * 256

-- for each trace, the ports of each line that may be snooped for it then
abbrev pub SetsAt : Type 0
SetsAt = Trace → PortSets

-- after each accepted trace the set of each line has each ACE port whose state of the line isn't I
abbrev pub HaveHolders : SetsAt → Plan → Type 0
HaveHolders sets plan =
    (past : Trace) → IsAccepted plan.header past → HasHolders (sets past) plan.header past

-- The trace is that of the turns, the last turn first: the burst of each is a step of its port that
-- snoops only ports of the sets at that point.
abbrev pub AreTurnsAmong : SetsAt → Plan → List Turn → Trace → Type 0
AreTurnsAmong sets plan [] past = past ≡ []
AreTurnsAmong sets plan (turn ∷ turns) past =
    (before : Trace) × AreTurnsAmong sets plan turns before
    × IsStepAmong (sets before) plan before turn.port turn.burst × (past ≡ onto turn.burst before)

-- The trace is a list of such steps.
abbrev pub AreStepsAmong : SetsAt → Plan → Trace → Type 0
AreStepsAmong sets plan past = (turns : List Turn) × AreTurnsAmong sets plan turns past
