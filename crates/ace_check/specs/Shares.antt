-- What the three shares of the rules keep of a trace, and when they may hear an event.
use Rattle.std.specs.Prelude.{ℕ, ◌≡◌, ◌<◌, ◌≤◌, ◌-◌, ◌^◌, ◌∷◌, true, None, length, is_some}
use Rattle.ace_event.specs.declared.event.Event.{Event}
use Rattle.ace_event.specs.declared.header.Header.{Header}
use Rattle.ace_model.specs.Trace.{Trace, port_of}
use Rattle.ace_model.specs.Accepted.{least_broken}
use Rattle.ace_model.specs.Lines.{known_lines}
use Rattle.ace_model.specs.Snoops.{snoops_of}
use Rattle.ace_portck.specs.Stands as ports
use Rattle.ace_lineck.specs.Stands as lines
use Rattle.ace_sysck.specs.Stands as system
use Rattle.ace_check.specs.declared.shares.Shares.{Shares}
pub use Rattle.ace_check.specs.Promises.{most_lines}

-- the most snoops that a run may have at one port
abbrev pub most_snoops : ℕ
most_snoops = 24576

-- Each share keeps what there is to keep of the trace, which is accepted under its header.
pub record SharesTell (s : Shares) (h : Header) (past : Trace) : Type 0 where
  pub ports : ports.Stands s.ports (record { header = h; past = past })
  pub lines : lines.Stands s.lines (record { header = h; past = past })
  pub system : system.Stands s.system (record { header = h; past = past })

-- Each share has room for the lines and snoops of a run, of which this is the trace so far, and no
-- fewer lines are let through.
pub record HaveRoom (s : Shares) (past : Trace) : Type 0 where
  pub most : s.most ≡ most_lines
  pub ports : ports.IsRoomy most_snoops s.ports
  pub lines : lines.IsRoomy most_lines past s.lines
  pub system : system.IsRoomy most_lines past s.system

-- The shares stand for the trace of a run under its header.
pub record SharesStand (s : Shares) (h : Header) (past : Trace) : Type 0 where
  pub tell : SharesTell s h past
  pub room : HaveRoom s past

-- The event may be the next of a run: it breaks no rule and is one of a port, and the trace with it
-- has few enough events, lines and snoops.
pub record MayHear (h : Header) (past : Trace) (e : Event) : Type 0 where
  pub fine : least_broken h past e ≡ None
  pub port : is_some (port_of e) ≡ true
  pub few : length past < 2 ^ 64 - 1
  pub lines : length (known_lines (e ∷ past)) ≤ most_lines
  pub snoops : (p : ℕ) → length (snoops_of (e ∷ past) p) ≤ most_snoops
