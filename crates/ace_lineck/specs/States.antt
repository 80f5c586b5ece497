-- What is kept of the states in which the ports have a line says what they are after a trace.
use Rattle.std.specs.Prelude.{ℕ, ◌≡◌, ◌&&◌, ◌==◌, if◌then◌else◌, nat_lt, List, slice_get, unwrap_or}
use Rattle.ace_codes.specs.declared.state.LineState.{LineState}
use Rattle.ace_codes.specs.declared.state.LineState.TheVariants.{I}
use Rattle.ace_event.specs.declared.event.Event.{Event}
use Rattle.ace_event.specs.declared.header.Header.{Header}
use Rattle.ace_model.specs.States.{state_of}
use Rattle.ace_model.specs.Trace.{Trace}
use Rattle.ace_portck.specs.Target.{Target}
use Rattle.ace_lineck.specs.Holders.{IsLineStep}

-- the state in which the port has the line: a port for which none is kept doesn't have it
abbrev pub state_at : List LineState → ℕ → LineState
state_at states p = unwrap_or (slice_get states p) I

-- the port has the line in this state, and the states of the others haven't changed
abbrev pub IsInState : List LineState → List LineState → ℕ → LineState → Type 0
IsInState old new q st =
    (p : ℕ) → state_at new p ≡ (if (p == q) && nat_lt p 32 then st else state_at old p)

-- what is kept of each port is its state
pub record StatesStand (h : Header) (past : Trace) (l : ℕ) (states : List LineState) : Type 0 where
  pub state : (p : ℕ) → state_at states p ≡ state_of h past p l

-- the event is the next of the line, and the states are those before it
pub record IsStatesStep (h : Header) (past : Trace) (l : ℕ) (e : Event) (t : Target)
    (states : List LineState) : Type 0 where
  pub step : IsLineStep h past l e t
  pub stand : StatesStand h past l states
