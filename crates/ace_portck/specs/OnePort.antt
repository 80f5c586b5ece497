-- What is kept of one port says of a trace.
use Rattle.std.specs.Prelude.{ℕ, ◌≡◌, ◌<◌, ◌-◌, ◌^◌, None, Some, length}
use Rattle.std.specs.List.{AllByRecursion}
use Rattle.ace_event.specs.declared.event.Event.{Event}
use Rattle.ace_event.specs.declared.header.Header.{Header}
use Rattle.ace_model.specs.Accepted.{IsAccepted, least_broken}
use Rattle.ace_model.specs.Trace.{Trace}
use Rattle.ace_model.specs.Trace as trace
use Rattle.ace_portck.specs.declared.one_port.OnePort.{OnePort}
use Rattle.ace_portck.specs.Pending.{HasByteId}
use Rattle.ace_portck.specs.Port.{HasRoom, PortStands}
use Rattle.ace_portck.specs.Snoops as snoops

-- the port of which it is kept
abbrev pub port_of : OnePort → ℕ
port_of s = s.port

-- It says what there is to say of the port, after a trace that is accepted.
pub record OnePortStands (s : OnePort) (h : Header) (past : Trace) (p : ℕ) : Type 0 where
  pub header : s.header ≡ h
  pub port : s.port ≡ p
  pub accepted : IsAccepted h past
  pub bytes : AllByRecursion HasByteId past
  pub count : s.count ≡ length past
  pub kept : PortStands h past p s.kept

-- there is room for so many snoops
abbrev pub IsRoomy : ℕ → OnePort → Type 0
IsRoomy n s = snoops.IsRoomy n s.kept.snoops

-- the event may be the next of the trace: it keeps the rules, and there is room for it where it is
-- one of the port
pub record MayHear (s : OnePort) (h : Header) (past : Trace) (p : ℕ) (e : Event) : Type 0 where
  pub stands : OnePortStands s h past p
  pub keeps : least_broken h past e ≡ None
  pub room : trace.port_of e ≡ Some p → HasRoom s.kept e
  pub few : length past < 2 ^ 64 - 1
