-- Which transfer of its transaction or of its snoop an event is.
use Rattle.std.specs.Prelude.{ℕ, ◌+◌, ◌==◌, nat_lt, if◌then◌else◌, Option, Some, None}
use Rattle.ace_codes.specs.declared.kind.ArKind.{ArKind}
use Rattle.ace_event.specs.declared.event.Event.{Event}
use Rattle.ace_event.specs.declared.event.Event.TheVariants.{R, W, Cd}
use Rattle.ace_event.specs.declared.header.Header.{Header}
use Rattle.ace_event_words.specs.declared.transfers.Transfers.{Transfers}
use Rattle.ace_event_words.specs.declared.transfers.Transfers.TheVariants.{One, Nth}
use Rattle.ace_model.specs.Kinds.{beats_of}
use Rattle.ace_model.specs.Replies.{next_sent_beat}
use Rattle.ace_model.specs.Trace.{Trace}
use Rattle.ace_model.specs.Transactions.{read_kind}
use Rattle.ace_model.specs.Writes.{next_write, next_write_beat}
use Rattle.ace_model.specs.declared.snoops.Snoop.{Snoop}
use Rattle.ace_model.specs.declared.transactions.Transaction.{Transaction}
use Rattle.ace_portck.specs.Targets.{sending, transaction_in}
use Rattle.ace_portck.specs.declared.target.Progress.{Progress}

-- the one behind so many, of a burst of so many; not numbered where they have all come
abbrev pub one_behind : ℕ → ℕ → Transfers
one_behind before beats = if nat_lt before beats then Nth (before + 1) beats else One

-- of a read of the kind: a single transfer isn't numbered
abbrev pub of_kind : Option ArKind → ℕ → Transfers
of_kind None before = One
of_kind (Some kind) before =
    if beats_of kind == 1 then One else one_behind before (beats_of kind)

abbrev pub of_read : Option Progress → Transfers
of_read None = One
of_read (Some x) = of_kind (read_kind x.transaction) x.transfers

abbrev pub of_write : Option Transaction → ℕ → Transfers
of_write None before = One
of_write (Some x) before = one_behind before 4

abbrev pub of_snoop : Option Snoop → ℕ → Transfers
of_snoop None before = One
of_snoop (Some snoop) before = one_behind before 4

-- which of the transfers of the read or the write it is, or of the snooped line
abbrev pub transfers_in : Header → Trace → Event → Transfers
transfers_in h past (R p i resp last word) = of_read (transaction_in h past (R p i resp last word))
transfers_in h past (W p strb last word) = of_write (next_write past p) (next_write_beat past p)
transfers_in h past (Cd p last word) = of_snoop (sending past p) (next_sent_beat past p)
transfers_in h past _ = One
