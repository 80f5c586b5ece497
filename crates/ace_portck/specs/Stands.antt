-- What is kept of all ports says of a trace.
use Rattle.std.specs.Prelude.{ℕ, ◌≡◌, ◌<◌, ◌-◌, ◌^◌, List, Some, None, length, slice_get, slice_index_or, []}
use Rattle.std.specs.List.{All, AllByRecursion}
use Rattle.ace_event.specs.Ports.{IsHeader}
use Rattle.ace_event.specs.declared.event.Event.{Event}
use Rattle.ace_event.specs.declared.header.Header.{Header}
use Rattle.ace_model.specs.Accepted.{IsAccepted, least_broken}
use Rattle.ace_model.specs.Trace.{Trace, port_of}
use Rattle.ace_portck.specs.declared.port.PortRecord.{PortRecord}
use Rattle.ace_portck.specs.declared.ports.PortCheck.{PortCheck}
use Rattle.ace_portck.specs.Opening.{OpeningStands}
use Rattle.ace_portck.specs.Pending.{HasByteId}
use Rattle.ace_portck.specs.Port as port
use Rattle.ace_portck.specs.Port.{PortStands}
use Rattle.ace_portck.specs.Snoops as snoops
use Rattle.ace_portck.specs.Targets.{Recording}

-- the record of port p; a port that isn't there has the other one
abbrev pub record_at : List PortRecord → PortRecord → ℕ → PortRecord
record_at ports outside p = slice_index_or ports p outside

-- each port's record stands for the port
abbrev pub PortsStand : Header → Trace → List PortRecord → PortRecord → Type 0
PortsStand h past ports outside = (p : ℕ) → PortStands h past p (record_at ports outside p)

-- it is the record of a port without events
abbrev pub IsFresh : PortRecord → Type 0
IsFresh s = (h : Header) (p : ℕ) → PortStands h [] p s

-- each of the records has room for so many snoops
abbrev pub AreRoomy : ℕ → List PortRecord → Type 0
AreRoomy n ports = All (λ k. snoops.IsRoomy n k.snoops) ports

abbrev pub IsRoomy : ℕ → PortCheck → Type 0
IsRoomy n s = AreRoomy n s.ports.items

-- What is kept says what there is to say of the recording, which is accepted.
pub record Stands (s : PortCheck) (r : Recording) : Type 0 where
  pub header : s.header ≡ r.header
  pub is_header : IsHeader r.header
  pub accepted : IsAccepted r.header r.past
  pub bytes : AllByRecursion HasByteId r.past
  pub count : s.count ≡ length r.past
  pub len : length s.ports.items ≡ r.header.ports
  pub opening : OpeningStands r.past s.opening
  pub ports : PortsStand r.header r.past s.ports.items s.outside

-- there is room for the event
abbrev pub HasRoom : PortCheck → Event → Type 0
HasRoom s e =
    (p : ℕ) (k : PortRecord) → port_of e ≡ Some p → slice_get s.ports.items p ≡ Some k
    → port.HasRoom k e

-- the event may be the next of the recording: it keeps the rules, and there is room for it
pub record MayApply (s : PortCheck) (r : Recording) (e : Event) : Type 0 where
  pub stands : Stands s r
  pub room : HasRoom s e
  pub keeps : least_broken r.header r.past e ≡ None
  pub few : length r.past < 2 ^ 64 - 1
