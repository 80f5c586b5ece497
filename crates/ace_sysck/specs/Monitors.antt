-- What is kept of the monitor of each port.
use Rattle.std.specs.Prelude.{ℕ, ◌≡◌, Bool, ◌==◌, ◌&&◌, if◌then◌else◌, Option, Some, None, length, slice_index_or}
use Rattle.ace_codes.specs.declared.state.LineState.{LineState}
use Rattle.ace_event.specs.declared.event.Event.{Event}
use Rattle.ace_event.specs.declared.event.Event.TheVariants.{Rk, Wk, Cr, S}
use Rattle.ace_tables.specs.States.{is_invalid}
use Rattle.ace_model.specs.Trace.{is_some_and}
use Rattle.ace_model.specs.Monitors.{is_monitored}
use Rattle.ace_portck.specs.Targets.{Recording}
use Rattle.ace_sysck.specs.declared.monitors.Monitors.{Monitors}

-- there is a line, and it is this one
abbrev pub is_line_of : Option ℕ → ℕ → Bool
is_line_of o l = is_some_and o (λ m. m == l)

-- the line that a monitor is set for, once its port leaves a line in a state: in I the monitor is
-- no longer set for that line
abbrev pub kept_after : Option ℕ → Option ℕ → LineState → Option ℕ
kept_after None line st = None
kept_after (Some m) line st = if is_invalid st && is_line_of line m then None else Some m

-- the port that an RK, WK, CR or S leaves in a state of its line, and the state
abbrev pub left_state : Event → Option (ℕ × LineState)
left_state (Rk q st) = Some (q, st)
left_state (Wk q st) = Some (q, st)
left_state (Cr q resp st) = Some (q, st)
left_state (S q addr st) = Some (q, st)
left_state _ = None

-- each port's monitor is set for the line that is kept, and for no other
pub record MonitorsStand (r : Recording) (s : Monitors) : Type 0 where
  pub size : length s.lines.items ≡ r.header.ports
  pub lines : (p l : ℕ)
      → is_monitored r.header r.past p l ≡ is_line_of (slice_index_or s.lines.items p None) l
