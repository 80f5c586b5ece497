-- What is kept of the system as a whole says what there is to say of it after a recording.
use Rattle.std.specs.Prelude.{ℕ, ◌≡◌, true, IsSome, nat_eq}
use Rattle.indexmap.specs.IndexMap.{get}
use Rattle.ace_event.specs.Ports.{IsHeader}
use Rattle.ace_model.specs.Accepted.{IsAccepted}
use Rattle.ace_model.specs.Trace.{Trace}
use Rattle.ace_model.specs.declared.transactions.Transaction.{Transaction}
use Rattle.ace_portck.specs.LineMaps.{HasRoomForLines}
use Rattle.ace_portck.specs.Targets.{Recording}
use Rattle.ace_sysck.specs.declared.system.SysCheck.{SysCheck}
use Rattle.ace_sysck.specs.Barriers.{BarriersStand}
use Rattle.ace_sysck.specs.Monitors.{MonitorsStand}
use Rattle.ace_sysck.specs.Results.{ResultsStand}
use Rattle.ace_sysck.specs.Registrations.{RegistrationsStand}
use Rattle.ace_sysck.specs.Messages.{MessagesStand}
use Rattle.ace_sysck.specs.Inboxes.{InboxesStand}
use Rattle.ace_sysck.specs.Syncs.{SyncsStand}

-- What is kept is what there is of barriers, exclusive transactions and DVM messages after the
-- recording, which is accepted.
pub record Stands (s : SysCheck) (r : Recording) : Type 0 where
  pub header : s.header ≡ r.header
  pub ports : IsHeader r.header
  pub accepted : IsAccepted r.header r.past
  pub barriers : BarriersStand r s.barriers
  pub monitors : MonitorsStand r s.monitors
  pub results : ResultsStand r s.results
  pub registrations : RegistrationsStand r s.registrations
  pub messages : MessagesStand r s.messages
  pub inboxes : InboxesStand r s.inboxes
  pub syncs : SyncsStand r s.syncs

-- there is a place for the line of the transaction, if that has lock 1: room for what its G leaves
abbrev pub HasLockRoom : SysCheck → Transaction → Type 0
HasLockRoom s x = x.lock ≡ true → IsSome (get nat_eq s.registrations.lines x.addr)

-- There is room for so many lines that are granted to transactions with lock 1, and each place is
-- that of a line which a transaction of the trace names.
abbrev pub IsRoomy : ℕ → Trace → SysCheck → Type 0
IsRoomy lines past s = HasRoomForLines lines past s.registrations.lines
