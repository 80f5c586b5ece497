-- What an event changes of its line.
use Rattle.std.specs.Prelude.{ℕ, Option, Some, None}
use Rattle.ace_event.specs.declared.event.Event.{Event}
use Rattle.ace_event.specs.declared.event.Event.TheVariants.{Rk, Wk, Cr, G, M, S, D, Mem}
use Rattle.ace_event.specs.declared.header.Header.{Header}
use Rattle.ace_model.specs.States.{state_of}
use Rattle.ace_model.specs.Trace.{Trace}
use Rattle.ace_since.specs.declared.change.Change.{Change}
use Rattle.ace_since.specs.declared.change.Change.TheVariants.{State, Memory, Grant}

-- the state of the line at the port, as it is after the event
abbrev pub state_by : Header → Trace → ℕ → ℕ → Option Change
state_by h now l p = Some (State p (state_of h now p l))

-- what may have changed of the line by the event, which is the last of the trace
abbrev pub change_by : Header → Trace → ℕ → Event → Option Change
change_by h now l (Rk p st) = state_by h now l p
change_by h now l (Wk p st) = state_by h now l p
change_by h now l (Cr p resp st) = state_by h now l p
change_by h now l (S p addr st) = state_by h now l p
change_by h now l (D p addr strobe x line) = state_by h now l p
change_by h now l (M p c i line) = Some Memory
change_by h now l (Mem addr line) = Some Memory
change_by h now l (G p c i) = Some Grant
change_by h now l _ = None
