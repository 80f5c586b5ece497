-- What is true of every trace as it grows, and the first facts of accepted ones, which all the laws use. A trace is read
-- from its newest event back, so each fact is shown for the trace `past`, and then for `past` with one more event.
--
-- Of **every** trace:
--
-- - A transaction is the event that issued it: it carries its place, that is how many events came before. Two
--   transactions at one place are one. The last transaction of a name (port, channel, identifier) has that name, and
--   what is outstanding under a name is the last one of it (`transaction_of`, `outstanding`). After an event, what is
--   outstanding is what it issued, or was outstanding before and did not end.
-- - What is in a trace stays: events, transactions and points keep their places in the longer trace. What a transaction
--   has had (`has_had`: its grant, its M, its last R or B) it keeps. Where a transaction has had an event, that event
--   belongs to it, and under the rules it was outstanding then (`Outstands`).
-- - A W beat belongs to the oldest write with data of its port that has fewer than four, so the writes have at most four
--   each (`few_beats`). A new write has no beats yet, a whole burst has four (`four_beats`), and a burst grows only by a W
--   that belongs to it (`burst_grows`).
--
-- Of **accepted** traces:
--
-- - **Before a MEM there are MEM events alone** (`Opens`), by K3. So nothing is outstanding, no line is granted, no port holds
--   one, and memory is the value of each line.
-- - **A port has one outstanding transaction on a line** (`one_on_line`). Only an AR or AW makes one outstanding, and by
--   K5 the port had none on the line then.
-- - **The complete writes of an ACE port that wait for their WK are outstanding, and none waits twice** (`WriteQueue`).
--   An AR or AW takes no name that is in use (K4), so that each one that waits stays the last of its name. R and RK end
--   reads only. A B adds its write to those that wait: by K26 it was outstanding and had had no B, so it was not among
--   them; a B of an ACE-Lite port ends a write of that port alone. A WK takes away the first, and the others are
--   outstanding under other identifiers. No other event completes or ends a transaction.
-- - **A complete write with data has had its M** (`done_write`), since its B came after the M (K26). So where a WK ends
--   such a write, or at an ACE-Lite port its B, memory has been written for it (`ends_write_of`, `ends_lite_written`).

-- The small tests: names, the newest of a name or on a line, and what stays when a transaction ends.
pub mod Looks
-- Which transaction a name means.
pub mod Issued
-- What is outstanding: its name, and what an event issues or ends.
pub mod Outstanding
-- A read that has had all its transfers.
pub mod Transfers
-- What a longer trace keeps: places, transactions, points, and what a transaction has had.
pub mod Growth
-- The events by their places: loads, beats of reads, grants.
pub mod Places
-- A snoop knows its place.
pub mod Snoops
-- The event that a transaction has had, and the transaction that was outstanding at it.
pub mod Served
-- A port has one outstanding transaction on a line (K5).
pub mod LineOnce
-- The beats of a write.
pub mod WriteBursts
-- Before a MEM there are MEM events alone (K3).
pub mod Opening
-- The complete writes that wait for their WK (K4, K26).
pub mod WriteQueue
-- The writes with data that have had no M (K24).
pub mod UnwrittenWrites
-- What the rules say of each transaction that was issued (K1 to K3).
pub mod IssuedTransactions
