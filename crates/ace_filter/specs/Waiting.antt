-- What waits at a port for a CR or a WK: of each, in order, the line that the port may lose by it.
use Rattle.std.specs.Prelude.{ℕ, ◌==◌, if◌then◌else◌, List, [], ◌∷◌, map, Option, Some, None}
use Rattle.ace_event.specs.declared.event.Channel.TheVariants.{Write}
use Rattle.ace_event.specs.declared.event.Event.{Event}
use Rattle.ace_event.specs.declared.event.Event.TheVariants.{B}
use Rattle.ace_model.specs.declared.snoops.Snoop.{Snoop}
use Rattle.ace_model.specs.declared.transactions.Transaction.{Transaction}
use Rattle.ace_model.specs.Snoops.{snoops_a_line, snoops_of}
use Rattle.ace_model.specs.Trace.{Trace, is_some_and, more}
use Rattle.ace_model.specs.Transactions.{read_kind, transaction_of, write_kind}
use Rattle.ace_model.specs.Kept.{takes_line, drops_line}

-- the line that a snoop names, if it is a line snoop
abbrev pub snooped_line : Snoop → Option ℕ
snooped_line s = if snoops_a_line s.snoop then Some s.addr else None

-- those of the port's snoops, in order: its CR events answer them in this order
abbrev pub snooped_lines : Trace → ℕ → List (Option ℕ)
snooped_lines past p = map snooped_line (snoops_of past p)

-- the line that a transaction takes, gives up
abbrev pub taken_line : Option Transaction → Option ℕ
taken_line None = None
taken_line (Some x) = if is_some_and (read_kind x) takes_line then Some x.addr else None

abbrev pub dropped_line : Option Transaction → Option ℕ
dropped_line None = None
dropped_line (Some x) = if is_some_and (write_kind x) drops_line then Some x.addr else None

-- that of the write of the port which the event completes
abbrev pub completed_line : Trace → Event → ℕ → Option (Option ℕ)
completed_line past (B q i resp) p =
    if p == q then Some (dropped_line (transaction_of past p Write i)) else None
completed_line past _ p = None

-- those of the port's complete writes, in the order of completion: its WK events belong to them in
-- this order
abbrev pub completed_lines : Trace → ℕ → List (Option ℕ)
completed_lines [] p = []
completed_lines (e ∷ past) p = more (completed_lines past p) (completed_line past e p)
