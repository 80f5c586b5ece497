-- What the outstanding transactions of a port say of a trace.
use Rattle.std.specs.Prelude.{ℕ, Bool, not, ◌&&◌, ◌||◌, ◌==◌, if◌then◌else◌}
use Rattle.ace_event.specs.declared.event.Channel.TheVariants.{Read, Write}
use Rattle.ace_event.specs.declared.header.Header.{Header}
use Rattle.ace_model.specs.Trace.{Trace}
use Rattle.ace_model.specs.Accepted.{IsAccepted}
use Rattle.ace_model.specs.Transactions.{is_line}
use Rattle.ace_model.specs.Progress.{updates_memory, evicts}
use Rattle.ace_portck.specs.declared.target.Progress.{Progress}
use Rattle.ace_portck.specs.declared.transactions.Transactions.{Transactions}
use Rattle.ace_portck.specs.Pending.{PendingStands}

-- those of both channels, after an accepted trace
pub record TransactionsStand (h : Header) (past : Trace) (p : ℕ) (s : Transactions) : Type 0 where
  pub accepted : IsAccepted h past
  pub reads : PendingStands h past p Read s.reads
  pub writes : PendingStands h past p Write s.writes

-- a line transaction with bar 0: one that barriers order
abbrev pub is_ordered_by : Progress → Bool
is_ordered_by x = is_line x.transaction && (x.transaction.bar == 0)

-- it has had its order point
abbrev pub has_order_point : Progress → Bool
has_order_point x =
    evicts x.transaction || (if updates_memory x.transaction then x.written else x.granted)

-- barriers order it, and it has had no order point; it isn't complete
abbrev pub is_unordered : Progress → Bool
is_unordered x = is_ordered_by x && not (has_order_point x)

abbrev pub is_incomplete : Progress → Bool
is_incomplete x = is_ordered_by x && not x.complete
