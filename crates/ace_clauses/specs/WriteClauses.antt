-- The clauses of the rules of M, B and WK, K24 to K28. K27 has one clause, which is the rule. A
-- clause may presume the earlier ones of its rule.
use Rattle.std.specs.Prelude.{ℕ, Bool, true, false, not, ◌&&◌, ◌||◌, ◌==◌}
use Rattle.ace_codes.specs.declared.kind.AwKind.{AwKind}
use Rattle.ace_codes.specs.declared.kind.AwKind.TheVariants.{WriteUnique}
use Rattle.ace_event.specs.declared.event.Channel.TheVariants.{Write}
use Rattle.ace_event.specs.declared.event.Event.{Event}
use Rattle.ace_event.specs.declared.event.Event.TheVariants.{B, M, Wk}
use Rattle.ace_event.specs.declared.header.Header.{Header}
use Rattle.ace_event.specs.declared.line.Line.{Line}
use Rattle.ace_tables.specs.EndStates.{ends_write}
use Rattle.ace_tables.specs.States.{is_invalid}
use Rattle.ace_model.specs.declared.transactions.Transaction.{Transaction}
use Rattle.ace_model.specs.Trace.{Trace, is_none_or, is_some_and, implies}
use Rattle.ace_model.specs.Kinds.{has_write_data, is_line_write, is_write_barrier, is_no_snoop_write}
use Rattle.ace_model.specs.Transactions.{transfers, is_read, outstanding, write_kind, is_complete, acknowledged}
use Rattle.ace_model.specs.Progress.{updates_memory}
use Rattle.ace_model.specs.Writes.{is_burst_whole, has_memory_write}
use Rattle.ace_model.specs.Grants.{has_passed_data, are_passed_data_whole, is_granted}
use Rattle.ace_model.specs.States.{are_snoops_done}
use Rattle.ace_model.specs.Copies.{same_line}
use Rattle.ace_model.specs.Replies.{passed_data}
use Rattle.ace_model.specs.ReadRules.{held_of}
use Rattle.ace_model.specs.WriteRules.{is_write_due, is_update_due, data_of_write}
use Rattle.ace_model.specs.Shares.{k26_memory}

-- the test holds of the outstanding transaction for which an M writes memory
abbrev pub is_written_for : Header → Trace → Event → (Transaction → Bool) → Bool
is_written_for h past (M p c i line) test = is_none_or (outstanding h past p c i) test
is_written_for h past _ test = true

-- it is a read, or a write with data; an Evict or a barrier, which have none, are never granted
abbrev pub may_have_data : Header → Trace → Transaction → Bool
may_have_data h past x =
    is_read x.chan || is_some_and (write_kind x) has_write_data || is_granted h past x

-- K24a: an M names an outstanding transaction with data.
abbrev pub k24a : Header → Trace → Event → Bool
k24a h past (M p c i line) = is_some_and (outstanding h past p c i) (may_have_data h past)
k24a h past _ = true

-- K24b: a read for which memory is written has passed data: under its grant a port passed a dirty
-- line, and it has had no M.
abbrev pub k24b : Header → Trace → Event → Bool
k24b h past e = is_written_for h past e (λ x. implies (is_read x.chan) (has_passed_data h past x))

-- K24c: the passed line is whole.
abbrev pub k24c : Header → Trace → Event → Bool
k24c h past e =
    is_written_for h past e (λ x. implies (is_read x.chan) (are_passed_data_whole h past x))

-- K24d: the read has had no transfer.
abbrev pub k24d : Header → Trace → Event → Bool
k24d h past e =
    is_written_for h past e (λ x. implies (is_read x.chan) (transfers past x.port x.id == 0))

-- K24e: the data of the write are whole.
abbrev pub k24e : Header → Trace → Event → Bool
k24e h past e =
    is_written_for h past e (λ x. implies (not (is_read x.chan)) (is_burst_whole past x))

-- a write that waits for its grant: one that is no memory update
abbrev pub waits_for_grant : Transaction → Bool
waits_for_grant x = not (is_read x.chan) && not (updates_memory x)

-- K24f: the write is granted, if it is no memory update.
abbrev pub k24f : Header → Trace → Event → Bool
k24f h past e = is_written_for h past e (λ x. implies (waits_for_grant x) (is_granted h past x))

-- K24g: the snoops of the write are done, if it is no memory update.
abbrev pub k24g : Header → Trace → Event → Bool
k24g h past e =
    is_written_for h past e (λ x. implies (waits_for_grant x) (are_snoops_done h past x))

-- K24h: the write has had no M.
abbrev pub k24h : Header → Trace → Event → Bool
k24h h past e =
    is_written_for h past e (λ x. implies (not (is_read x.chan))
    (not (has_memory_write past x.port x.chan x.id)))

-- K24i: a memory update, which is never granted, waits while the granted transaction of its line
-- has passed data.
abbrev pub k24i : Header → Trace → Event → Bool
k24i h past e =
    is_written_for h past e (λ x. implies (updates_memory x)
    (is_write_due h past x || is_update_due h past x))

abbrev pub is_write_unique : AwKind → Bool
is_write_unique WriteUnique = true
is_write_unique _ = false

-- the line of an M is what a write for which it is, of a kind that passes the test, writes
abbrev pub is_data_of : Header → Trace → Event → (AwKind → Bool) → Bool
is_data_of h past (M p c i line) test =
    is_none_or (outstanding h past p c i)
    (λ x. is_none_or (write_kind x) (λ k. implies (test k)
    (same_line line (data_of_write h past x k))))
is_data_of h past _ test = true

-- K25a: for a read memory gets the passed line.
abbrev pub is_passed_line : Header → Trace → Line → Transaction → Bool
is_passed_line h past line x =
    implies (is_read x.chan) (is_none_or (passed_data h past x.addr) (same_line line))

abbrev pub k25a : Header → Trace → Event → Bool
k25a h past (M p c i line) = is_none_or (outstanding h past p c i) (is_passed_line h past line)
k25a h past _ = true

-- K25b: for an update or WriteLineUnique memory gets its burst.
abbrev pub k25b : Header → Trace → Event → Bool
k25b h past e = is_data_of h past e (λ k. not (is_write_unique k) && not (is_no_snoop_write k))

-- K25c: for a WriteUnique memory gets its burst in the passed line, or else in what memory has.
abbrev pub k25c : Header → Trace → Event → Bool
k25c h past e = is_data_of h past e is_write_unique

-- K25d: for a WriteNoSnoop memory gets its burst in what memory has.
abbrev pub k25d : Header → Trace → Event → Bool
k25d h past e = is_data_of h past e is_no_snoop_write

-- K26a: a B names an outstanding write without B.
abbrev pub k26a : Header → Trace → Event → Bool
k26a h past (B p i resp) =
    is_some_and (outstanding h past p Write i) (λ x. not (is_complete past x.port x.chan x.id))
k26a h past _ = true

-- K26b: its response is OKAY.
abbrev pub k26b : Header → Trace → Event → Bool
k26b h past (B p i resp) = resp == 0
k26b h past _ = true

-- K26c: memory was written for it, if it is a write with data.
abbrev pub k26c : Header → Trace → Event → Bool
k26c h past e = k26_memory h past e

-- the test holds of the write that a WK acknowledges, and of its kind
abbrev pub is_acknowledged_write : Trace → ℕ → (Transaction → AwKind → Bool) → Bool
is_acknowledged_write past p test =
    is_none_or (acknowledged past p Write) (λ x. is_none_or (write_kind x) (test x))

-- K28a: the state of a WK is an end state of the line write.
abbrev pub k28a : Header → Trace → Event → Bool
k28a h past (Wk p st) =
    is_acknowledged_write past p (λ x k. implies (is_line_write k)
    (ends_write k (held_of h past x) st))
k28a h past _ = true

-- K28b: a barrier ends in I.
abbrev pub k28b : Header → Trace → Event → Bool
k28b h past (Wk p st) =
    is_acknowledged_write past p (λ x k. implies (is_write_barrier k) (is_invalid st))
k28b h past _ = true
