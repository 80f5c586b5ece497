-- Data newer than memory have a place, and every valid copy is the line's value [DirtyPlace].
--
-- The value of a line [value_of] is the line of its MEM, or zeros, changed by its stores in the order of the trace. The law
-- says of every point of an accepted trace, and of every line: each port whose state isn't I has a copy equal to the value
-- [AreCopiesTrue]; and the value isn't lost [IsValueSafe]: memory has it, or a port holds the line in UD or SD, or there are passed data and
-- they are the value, or the granted transaction is a MakeUnique or WriteLineUnique, which replaces the whole line, or a
-- MakeInvalid, which gives up what is newer than memory. The law of the holders (Holders) is taken for granted: a unique
-- line has one holder, a dirty line has one owner.
--
-- After the MEM events the value changes by four kinds of store only, and each finds the line alone (Stores):
--   * the D of a port that may store. K32: it holds the line in UC or UD, so every other port is in I, and has nothing
--     outstanding on it.
--   * the D of a MakeUnique. K32: the MakeUnique is complete and has had no D, and all bytes are stored. It is still
--     granted, and since its first transfer every other port is in I.
--   * the M of a WriteUnique, WriteLineUnique or WriteNoSnoop. K24: it is granted, its burst is whole, its snoops are
--     done, and it has had no M. The first two snoop by CleanInvalid and MakeInvalid, which leave no port with the line;
--     no port ever holds a line of the third (K8).
--   * the R of a MakeInvalid, which makes the value what memory has. It is the only one. K18: the MakeInvalid is granted
--     and its snoops are done. They are by MakeInvalid (K13), which leaves no port with the line (K15), and the port
--     itself has held I since its AR (K6).
-- At the last two no port holds the line, and the transaction hasn't begun [Unheld].
--
-- Seven more facts hold at every point and make the law inductive [DirtyPlaced, in Facts]:
--   * what a port passed on with PassDirty under a grant, before the M of the granted transaction, was the value as it is
--     now, or the port has stored since and holds the line dirty [PassedTrue];
--   * what a port has sent under the grant of a fetch (ReadClean, ReadNotSharedDirty, ReadShared, ReadUnique) is the
--     value [SentTrue];
--   * the reply to a fetch that has had a transfer is the value, and so are the words that it has had; with all four of
--     them its port's copy is the value [FetchesTrue];
--   * a MakeUnique that has had its D leaves its port's copy the value [MadeTrue];
--   * once a granted write has had its M, or a granted MakeInvalid its R, memory is the value and no port holds the line
--     [BegunTrue];
--   * the W beats of an outstanding WriteBack, WriteClean or WriteEvict are words of the value [UpdatesTrue];
--   * once an outstanding WriteBack or WriteClean has had its M, memory is the value and the line's granted transaction
--     has no passed data [UpdatedTrue].
--
-- Why each kind of event keeps them (AC, CD, L and OP change nothing here):
--
-- D: the copy of the port changes as the value does, and every other port is in I (Copies). The port is then dirty, or
--   its MakeUnique is granted and replaces the line (Safe). Where a fact says of other data that they are the value, no D
--   comes. After a port has passed the line on, the others are in I or SC, and nothing is passed to a MakeUnique; a D of
--   that port itself leaves it dirty (Passed). After a port has sent data to a fetch, or the fetch has had a transfer, no
--   other port is unique, and its own has the fetch outstanding (Stays, Fetches). K32 refuses a second D of a MakeUnique
--   (Made). Under a granted write that has had its M, or MakeInvalid that has had its R, no port holds the line (Written).
--   The port of an outstanding update
--   holds the line and may not store, and no other port is unique (Stays).
-- M: by K24 and K25 it writes one of three lines (MemoryWrites). Passed data of a read: they are the value, or a port
--   holds the line dirty. The whole burst of a memory update: it is the value, and K24 leaves the granted transaction no
--   passed data. The line that a granted write stores: the base that it merges its burst into is the value before, since
--   no port holds the line, so the new line is the value after; a WriteLineUnique replaces all bytes (Written).
-- W: by K11 the beat of a memory update is that word of the port's copy, which is the value, since the port holds the
--   line as long as the update is outstanding: it starts from a valid state (K6), answers no snoop by giving it up (K16)
--   and makes no silent transition to I (K29) (UpdateHolds, Stays).
-- R: by K20 the word is that of the reply. The reply is the copy of the first port that sent data, which is the value;
--   where none sent, the snoops are done by K18, so no port is dirty and there are no passed data, and memory is the
--   value (Replies). The last R gives its port the line, and finds it in I (K6); the fetch then has all four words of the
--   value (Fetches, Copies). The R of a MakeInvalid makes the value what memory has (Written, Safe). No port holds the line
--   then, so there is no copy of it, and no update of it is outstanding, whose port would hold it (Copies, Stays). Nothing
--   was passed on and no fetch is under way, as the MakeInvalid has the grant (Passed, Stays).
-- RK: a port that held I and holds the line now has ended a fetch or, by K23, a MakeUnique that had its D: its copy is
--   the value (Copies). A dirty line stays dirty (DirtMoves). A read with passed data has had PassDirty from its first
--   transfer on (K18; K13 allows no snoop after it), so by the end states it leaves its port dirty, as a MakeUnique does
--   (PassedData, Safe). A MakeInvalid that ends has had its R (K22), and memory is the value (Safe).
-- WK, B: a granted write that ends has had its M (K26), and memory is the value (Safe). A dirty port that ends a
--   WriteBack or a WriteClean has had its M too; a WriteEvict and an Evict are of a clean line, and the port of a granted
--   write holds nothing (K6) (UpdateHolds, DirtMoves). An ACE-Lite port ends its reads with the last R, which is a store
--   for a MakeInvalid; it issues no MakeUnique (K2), and its reads have no passed data, since K18 would want PassDirty
--   then, and K19 forbids it there.
-- CR: the row (K15) passes on only a dirty line, whose copy is the value, and sends only a valid one (Passed, Stays). A
--   dirty port stays dirty, or passes the line on, or makes way for a transaction that replaces the line or gives it up
--   (Safe). Beside a memory update it passes nothing on (K16), and it answers once under a grant, as it is snooped once
--   (K13) (Updated, PassedData).
-- S: a silent transition takes no port out of I, and from UD only to SD (K29) (DirtMoves).
-- G: under a new grant no snoop is answered yet, and its transaction has had no M and no R (K12, K18, K24).
-- AR, AW: a new transaction has had no transfer, beat, D or M.
-- MEM: before it there are MEM events alone (K3), so nothing is outstanding or granted and no port holds a line; and it makes
--   memory and the value the same line (Trace/Opening).
--
-- The law's one premise beside acceptance is what the types of the fields of an event give [FitsFields]: the line of an M or MEM,
-- and so memory, has four words, and a word of data sixteen bytes (MemoryWrites, MergedLines).

-- the facts that hold at every point
pub mod Facts
-- lines by their words and strobes; the transfers of a read and the beats of a write
pub mod MergedLines
pub mod FullReads
pub mod Beats
-- the stores to a line, and that the M of a write and the R of a MakeInvalid find no port with the line
pub mod Stores
-- what ends a write of a line, what an update holds, and where dirt goes
pub mod Ended
pub mod UpdateHolds
pub mod DirtMoves
-- the copies; that the value stays while data of it are on their way
pub mod Copies
pub mod Stays
-- passed data are there until the M, and their read has PassDirty; the reply is the value; what reads leave at their port
pub mod PassedData
pub mod Replies
pub mod Fetches
pub mod Made
-- what an M writes, and what becomes of passed data
pub mod MemoryWrites
pub mod Passed
-- memory once a write or an update has had its M, or a MakeInvalid its R
pub mod Written
pub mod Updated
-- the value stays safe, and the law
pub mod Safe
pub mod Law
