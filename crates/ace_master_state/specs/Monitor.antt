-- What is kept of the monitor of a port says of a trace.
use Rattle.std.specs.Prelude.{ℕ, ◌≡◌, ◌==◌, Bool, ◌&&◌, if◌then◌else◌, Option, Some, None}
use Rattle.ace_event.specs.declared.event.Event.{Event}
use Rattle.ace_event.specs.declared.event.Event.TheVariants.{L, D}
use Rattle.ace_event.specs.declared.header.Header.{Header}
use Rattle.ace_model.specs.Monitors.{is_monitored}
use Rattle.ace_model.specs.Trace.{Trace, is_some_and}
use Rattle.ace_master_state.specs.declared.monitor.Monitor.{Monitor}

-- it is set for its line alone
pub record MonitorStands (h : Header) (past : Trace) (p : ℕ) (s : Monitor) : Type 0 where
  pub port : s.port ≡ p
  pub set : (l : ℕ) → is_monitored h past p l ≡ is_some_and s.line (λ k. k == l)

-- the line after the event, whatever the states of the lines are: that of an exclusive load, and
-- none after an exclusive store
abbrev pub line_after : Option ℕ → ℕ → Event → Option ℕ
line_after line p (L q addr w x word) = if (q == p) && x then Some addr else line
line_after line p (D q addr strobe x bytes) = if (q == p) && x then None else line
line_after line p _ = line

-- the line, where the port holds it
abbrev pub kept_line : Option ℕ → (ℕ → Bool) → Option ℕ
kept_line None is_lost = None
kept_line (Some l) is_lost = if is_lost l then None else Some l
