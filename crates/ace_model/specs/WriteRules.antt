-- The rules of M, B and WK, K24 to K28.
use Rattle.std.specs.Prelude.{Bool, true, not, ◌&&◌, ◌||◌, ◌==◌, if◌then◌else◌, Option, is_some, unwrap_or, option_map}
use Rattle.ace_codes.specs.declared.kind.AwKind.{AwKind}
use Rattle.ace_codes.specs.declared.kind.AwKind.TheVariants.{WriteUnique, WriteNoSnoop}
use Rattle.ace_codes.specs.declared.state.LineState.{LineState}
use Rattle.ace_event.specs.declared.event.Channel.TheVariants.{Write}
use Rattle.ace_event.specs.declared.event.Event.{Event}
use Rattle.ace_event.specs.declared.event.Event.TheVariants.{B, M, Wk}
use Rattle.ace_event.specs.declared.header.Header.{Header}
use Rattle.ace_event.specs.declared.line.Line.{Line}
use Rattle.ace_event.specs.Bytes.{merged}
use Rattle.ace_tables.specs.EndStates.{ends_write}
use Rattle.ace_model.specs.declared.transactions.Transaction.{Transaction}
use Rattle.ace_model.specs.Trace.{Trace, is_none_or, is_some_and, implies}
use Rattle.ace_model.specs.Kinds.{has_write_data}
use Rattle.ace_model.specs.Transactions.{transfers, is_read, outstanding, write_kind, is_complete, next_complete, acknowledged}
use Rattle.ace_model.specs.Progress.{updates_memory}
use Rattle.ace_model.specs.Writes.{burst_of, is_burst_whole, has_memory_write}
use Rattle.ace_model.specs.Grants.{has_passed_data, are_passed_data_whole, is_granted, granted}
use Rattle.ace_model.specs.States.{are_snoops_done}
use Rattle.ace_model.specs.Copies.{memory_of, same_line}
use Rattle.ace_model.specs.Replies.{passed_data}
use Rattle.ace_model.specs.Values.{burst_strobe, burst_line}
use Rattle.ace_model.specs.ReadRules.{held_of}

-- the dirty data that a snooped port passed on are written before the read has had a transfer, once
-- they are whole
abbrev pub may_write_passed : Header → Trace → Transaction → Bool
may_write_passed h past x =
    has_passed_data h past x && are_passed_data_whole h past x && (transfers past x.port x.id == 0)

-- the write is granted and has its snoops done
abbrev pub is_write_due : Header → Trace → Transaction → Bool
is_write_due h past x = is_granted h past x && are_snoops_done h past x

-- the update may write memory: no data newer than its own are on their way
abbrev pub is_update_due : Header → Trace → Transaction → Bool
is_update_due h past x =
    updates_memory x && is_none_or (granted h past x.addr) (λ y. not (has_passed_data h past y))

abbrev pub may_write_data : Header → Trace → Transaction → Bool
may_write_data h past x =
    is_burst_whole past x && not (has_memory_write past x.port x.chan x.id)
    && (is_write_due h past x || is_update_due h past x)

abbrev pub may_write_memory : Header → Trace → Transaction → Bool
may_write_memory h past x =
    if is_read x.chan then may_write_passed h past x else may_write_data h past x

-- K24: an M is for a granted read that has passed data whose CD burst is whole and that has had no
-- R; or for a granted write whose burst is whole, whose snoops are done and that has had no M; or
-- for an outstanding memory update whose burst is whole and that has had no M, while the line's
-- granted transaction, if there is one, has no passed data (Arm IHI 0022E, C6).
abbrev pub k24 : Header → Trace → Event → Bool
k24 h past (M p c i line) = is_some_and (outstanding h past p c i) (may_write_memory h past)
k24 h past _ = true

-- the line after the write's burst is stored into it
abbrev pub burst_into : Trace → Transaction → Line → Line
burst_into past x line = merged line (burst_strobe (burst_of past x)) (burst_line (burst_of past x))

-- what a write of this kind writes
abbrev pub data_of_write : Header → Trace → Transaction → AwKind → Line
data_of_write h past x WriteUnique =
    burst_into past x (unwrap_or (passed_data h past x.addr) (memory_of past x.addr))
data_of_write h past x WriteNoSnoop = burst_into past x (memory_of past x.addr)
data_of_write h past x _ = burst_line (burst_of past x)

-- what the transaction writes to memory
abbrev pub data_of : Header → Trace → Transaction → Option Line
data_of h past x =
    if is_read x.chan then passed_data h past x.addr
    else option_map (data_of_write h past x) (write_kind x)

abbrev pub has_data : Header → Trace → Line → Transaction → Bool
has_data h past line x = is_none_or (data_of h past x) (same_line line)

-- K25: the line of an M is the passed data, for a read; the burst, for memory updates and
-- WriteLineUnique; the burst stored into the passed data, if there are any, else into memory, for
-- WriteUnique; the burst stored into memory, for WriteNoSnoop.
abbrev pub k25 : Header → Trace → Event → Bool
k25 h past (M p c i line) = is_none_or (outstanding h past p c i) (has_data h past line)
k25 h past _ = true

-- writes with data write memory before their response
abbrev pub may_respond : Trace → Transaction → Bool
may_respond past x =
    not (is_complete past x.port x.chan x.id)
    && implies (is_some_and (write_kind x) has_write_data)
    (has_memory_write past x.port x.chan x.id)

-- K26: a B names an outstanding write without B, and its response is 0; a write with data has had
-- its M (Arm IHI 0022E, C6).
abbrev pub k26 : Header → Trace → Event → Bool
k26 h past (B p i resp) =
    (resp == 0) && is_some_and (outstanding h past p Write i) (may_respond past)
k26 h past _ = true

-- K27: the port of a WK has a complete write without WK (Arm IHI 0022E, C3.5).
abbrev pub k27 : Header → Trace → Event → Bool
k27 h past (Wk p st) = is_some (next_complete past p Write)
k27 h past _ = true

abbrev pub ends_write_well : Header → Trace → LineState → Transaction → Bool
ends_write_well h past st x = is_none_or (write_kind x) (λ k. ends_write k (held_of h past x) st)

-- K28: the state of a WK is an end state of the write, by the state that the port holds (Arm IHI
-- 0022E, C4).
abbrev pub k28 : Header → Trace → Event → Bool
k28 h past (Wk p st) = is_none_or (acknowledged past p Write) (ends_write_well h past st)
k28 h past _ = true
