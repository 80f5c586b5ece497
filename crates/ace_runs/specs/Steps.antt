-- The steps by which a run goes on: where each is enabled for a port, and which bursts it may give.
use Rattle.std.specs.Prelude.{ℕ, ◌≡◌, Bool, true, ◌&&◌, ◌==◌, nat_le, if◌then◌else◌, List, [], ◌∷◌, length, Option, Some, None, option_and_then}
use Rattle.std.specs.List.{list_any}
use Rattle.ace_event.specs.declared.event.Event.{Event}
use Rattle.ace_event.specs.declared.header.Header.{Header}
use Rattle.ace_model.specs.declared.plans.Op.{Op}
use Rattle.ace_model.specs.declared.transactions.Transaction.{Transaction}
use Rattle.ace_model.specs.Trace.{Trace}
use Rattle.ace_model.specs.Plans.{Plan}
use Rattle.ace_runs.specs.Operations.{next_operation}
use Rattle.ace_runs.specs.Bursts.{onto, are_kept, may_serve, serves}
use Rattle.ace_runs.specs.MasterSteps.{may_answer_snoop, answers_snoop, may_send, sends, may_acknowledge, acknowledges, may_go_on, goes_on}
use Rattle.ace_runs.specs.LineSteps.{update_burst, grant_burst, may_snoop, gives_snoops, passed_burst, transfer_burst, write_burst}
use Rattle.ace_runs.specs.OrderSteps.{barrier_burst, may_forward, forwards, dvm_burst, may_give_completion, gives_completion}

-- A step: its number, where it is enabled for a port, and whether it gives a burst for the port.
pub record StepKind : Type 0 where
  pub number : ℕ
  pub is_enabled : Header → Trace → ℕ → Bool
  pub gives : Header → Trace → ℕ → List Event → Bool

abbrev pub step : ℕ → (Header → Trace → ℕ → Bool)
    → (Header → Trace → ℕ → List Event → Bool) → StepKind
step n is_enabled gives = record { number = n; is_enabled = is_enabled; gives = gives }

-- a step that serves a transaction
abbrev pub service : ℕ → (Header → Trace → Transaction → List Event) → StepKind
service n burst_for = step n (may_serve burst_for) (serves burst_for)

-- The fourteen steps of a port with so many ways and this next operation, at which two of them
-- look.
abbrev pub steps : ℕ → Option Op → List StepKind
steps ways next =
    step 1 may_answer_snoop answers_snoop
    ∷ step 2 may_send sends
    ∷ service 3 update_burst
    ∷ step 4 (may_acknowledge next) (acknowledges next)
    ∷ service 5 grant_burst
    ∷ step 6 may_snoop gives_snoops
    ∷ service 7 passed_burst
    ∷ service 8 transfer_burst
    ∷ service 9 write_burst
    ∷ service 10 barrier_burst
    ∷ step 11 may_forward forwards
    ∷ service 12 dvm_burst
    ∷ step 13 may_give_completion gives_completion
    ∷ step 14 (may_go_on ways next) (goes_on ways next)
    ∷ []

abbrev pub steps_of : Plan → Trace → ℕ → List StepKind
steps_of plan past p = steps plan.ways (next_operation plan past p)

abbrev pub has_number : List ℕ → StepKind → Bool
has_number numbers s = list_any (λ n. n == s.number) numbers

-- a step of one of these numbers is enabled for the port
abbrev pub is_enabled_by : List ℕ → Plan → Trace → ℕ → Bool
is_enabled_by numbers plan past p =
    list_any (λ s. has_number numbers s && s.is_enabled plan.header past p) (steps_of plan past p)

-- a step is enabled for the port
abbrev pub is_enabled : Plan → Trace → ℕ → Bool
is_enabled plan past p = list_any (λ s. s.is_enabled plan.header past p) (steps_of plan past p)

abbrev pub most_events : ℕ
most_events = 16

-- one to sixteen events, none of which breaks a rule
abbrev pub is_sound : Header → Trace → List Event → Bool
is_sound h past burst =
    nat_le 1 (length burst) && nat_le (length burst) most_events && are_kept h past burst

-- the step is enabled for the port, and gives the burst
abbrev pub may_give : Header → Trace → ℕ → List Event → StepKind → Bool
may_give h past p burst s = s.is_enabled h past p && s.gives h past p burst

-- the burst is one that a step of one of these numbers gives which is enabled for the port
abbrev pub is_step_by : List ℕ → Plan → Trace → ℕ → List Event → Bool
is_step_by numbers plan past p burst =
    is_sound plan.header past burst
    && list_any (λ s. has_number numbers s && may_give plan.header past p burst s)
    (steps_of plan past p)

-- the burst is one that a step gives which is enabled for the port
abbrev pub is_step : Plan → Trace → ℕ → List Event → Bool
is_step plan past p burst =
    is_sound plan.header past burst && list_any (may_give plan.header past p burst)
    (steps_of plan past p)

-- A step of the plan is enabled for the port.
abbrev pub Enabled : Plan → Trace → ℕ → Type 0
Enabled plan past p = is_enabled plan past p ≡ true

-- The burst is a step of the plan for the port.
abbrev pub IsStep : Plan → Trace → ℕ → List Event → Type 0
IsStep plan past p burst = is_step plan past p burst ≡ true

-- a turn: a port, and the burst that it put
pub record Turn : Type 0 where
  pub port : ℕ
  pub burst : List Event

abbrev pub after_turn : Plan → Turn → Trace → Option Trace
after_turn plan turn past =
    if is_step plan past turn.port turn.burst then Some (onto turn.burst past) else None

-- the trace that the turns make, the last turn first, if each of them is a step
abbrev pub run_of : Plan → List Turn → Option Trace
run_of plan [] = Some []
run_of plan (turn ∷ turns) = option_and_then (after_turn plan turn) (run_of plan turns)

-- The trace is a list of bursts one after the other, each of them a step of some port.
abbrev pub AreSteps : Plan → Trace → Type 0
AreSteps plan past = (turns : List Turn) × (run_of plan turns ≡ Some past)
