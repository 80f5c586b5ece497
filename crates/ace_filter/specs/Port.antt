-- What is kept of a port says of a trace.
use Rattle.std.specs.Prelude.{ℕ, ◌≡◌, ◌<◌, ◌-◌, ◌^◌, if◌then◌else◌, List, ◌∷◌, length, slice_get, unwrap_or, Option, Some, None}
use Rattle.ace_codes.specs.Reads.{ar_kind_of}
use Rattle.ace_codes.specs.Writes.{aw_kind_of}
use Rattle.ace_event.specs.declared.event.Channel.TheVariants.{Read, Write}
use Rattle.ace_event.specs.declared.event.Event.{Event}
use Rattle.ace_event.specs.declared.event.Event.TheVariants.{Ar, Aw}
use Rattle.ace_event.specs.declared.header.Header.{Header}
use Rattle.ace_model.specs.Accepted.{IsAccepted}
use Rattle.ace_model.specs.Kinds.{is_line_read, is_line_write}
use Rattle.ace_model.specs.Snoops.{answers}
use Rattle.ace_model.specs.Trace.{Trace, is_some_and, port_of}
use Rattle.ace_model.specs.Transactions.{acknowledgements, transaction_of}
use Rattle.ace_filter.specs.declared.port.PortWatch.{PortWatch}
use Rattle.ace_filter.specs.Queue as queue
use Rattle.ace_filter.specs.Queue.{QueueStands}
use Rattle.ace_filter.specs.Waiting.{completed_lines, dropped_line, snooped_lines, taken_line}

-- the line of the line transaction that the event issues
abbrev pub begun_line : Event → Option ℕ
begun_line (Ar p i addr snoop dom bar lock) =
    if is_some_and (ar_kind_of snoop dom bar) is_line_read then Some addr else None
begun_line (Aw p i addr snoop dom bar) =
    if is_some_and (aw_kind_of snoop dom bar) is_line_write then Some addr else None
begun_line _ = None

-- the line that is kept under the identifier
abbrev pub line_under : List (Option ℕ) → ℕ → Option ℕ
line_under lines i = unwrap_or (slice_get lines i) None

-- The last transaction under each identifier, the complete writes without WK and the unanswered
-- snoops of the port, by the lines that they take, give up and name.
pub record PortStands (past : Trace) (p : ℕ) (s : PortWatch) : Type 0 where
  pub reads : (i : ℕ) → i < 256
      → line_under s.reads i ≡ taken_line (transaction_of past p Read i)
  pub writes : (i : ℕ) → i < 256
      → line_under s.writes i ≡ dropped_line (transaction_of past p Write i)
  pub complete : QueueStands (completed_lines past p) (acknowledgements past p Write) s.complete
  pub snoops : QueueStands (snooped_lines past p) (answers past p) s.snoops

-- there is room for the snoops, and for the complete writes, of so many lines
pub record HasRoom (lines : ℕ) (s : PortWatch) : Type 0 where
  pub complete : queue.HasRoom lines s.complete
  pub snoops : queue.HasRoom lines s.snoops

-- an event of the port that keeps the rules after the past
pub record IsHeard (h : Header) (past : Trace) (e : Event) (p : ℕ) : Type 0 where
  pub accepted : IsAccepted h (e ∷ past)
  pub port : port_of e ≡ Some p
  pub few : length past < 2 ^ 64 - 1
