-- What is kept of a port says of a trace.
use Rattle.std.specs.Prelude.{ℕ}
use Rattle.ace_event.specs.declared.event.Event.{Event}
use Rattle.ace_event.specs.declared.header.Header.{Header}
use Rattle.ace_model.specs.Trace.{Trace}
use Rattle.ace_portck.specs.declared.port.PortRecord.{PortRecord}
use Rattle.ace_portck.specs.Transactions.{TransactionsStand}
use Rattle.ace_portck.specs.Snoops.{SnoopsStand}
use Rattle.ace_portck.specs.Snoops as snoops
use Rattle.ace_portck.specs.WriteData.{WritesStand}
use Rattle.ace_portck.specs.Retired.{RetiredStand}

pub record PortStands (h : Header) (past : Trace) (p : ℕ) (s : PortRecord) : Type 0 where
  pub transactions : TransactionsStand h past p s.transactions
  pub snoops : SnoopsStand past p s.snoops
  pub bursts : WritesStand h past p s.bursts
  pub retired : RetiredStand past p s.retired

-- there is room for the event
abbrev pub HasRoom : PortRecord → Event → Type 0
HasRoom s e = snoops.HasRoom s.snoops e
