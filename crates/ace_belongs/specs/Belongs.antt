-- What an event after a trace belongs to: a transaction, and a line.
use Rattle.std.specs.Prelude.{ℕ, if◌then◌else◌, Option, Some, None, length}
use Rattle.ace_event.specs.declared.event.Event.{Event}
use Rattle.ace_event.specs.declared.event.Event.TheVariants.{S, L, D, Mem, Ac, Cr, Cd}
use Rattle.ace_event.specs.declared.header.Header.{Header}
use Rattle.ace_model.specs.Snoops.{answered, snoops_a_line}
use Rattle.ace_model.specs.Trace.{Trace, newer}
use Rattle.ace_model.specs.Transactions.{is_line, issued}
use Rattle.ace_model.specs.declared.transactions.Transaction.{Transaction}
use Rattle.ace_portck.specs.Targets.{line_of_snoop, sending, served_in}
use Rattle.ace_portck.specs.declared.target.Progress.{Progress}

-- the transaction, without how far it has come
abbrev pub transaction_under : Option Progress → Option Transaction
transaction_under None = None
transaction_under (Some x) = Some x.transaction

-- the transaction that the event begins or belongs to
abbrev pub serves_in : Header → Trace → Event → Option Transaction
serves_in h past e = newer (issued (length past) e) (served_in h past e)

-- the line of a line transaction
abbrev pub line_of_transaction : Option Transaction → Option ℕ
line_of_transaction None = None
line_of_transaction (Some x) = if is_line x then Some x.addr else None

-- the line that the event names, or that what it belongs to names
abbrev pub event_line : Header → Trace → Event → Option ℕ
event_line h past (S p addr st) = Some addr
event_line h past (L p addr w x word) = Some addr
event_line h past (D p addr strobe x line) = Some addr
event_line h past (Mem addr line) = Some addr
event_line h past (Ac p addr snoop) = if snoops_a_line snoop then Some addr else None
event_line h past (Cr p resp st) = line_of_snoop (answered past p)
event_line h past (Cd p last word) = line_of_snoop (sending past p)
event_line h past e = line_of_transaction (serves_in h past e)
