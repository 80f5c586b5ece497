-- All reads follow one order of the stores: the law `ReadsFollow`, for every accepted trace of events that a program can hold.
--
-- The stores of a line are taken in the order of the trace; its value at a point is the line of its MEM, or zeros, changed by the stores before it
-- [value_of]. The law gives each read a point of the trace. A load has the point right before it, and its word is that word
-- of the value there. A read of a line has a point after its G and not after its first transfer, and all its transfers are
-- words of the value there. The points of the reads of one port and line, in the order of their L and AR, never go back. The
-- proof rests on the law on holders [OneHolder], on the facts under a grant [SnoopsStand], and on the law `DirtyPlace` with
-- its facts [DirtyPlaced]: each port whose state isn't I has the value as its copy, data newer than memory have a place, and
-- the burst of an outstanding memory update is the value. The line of an M has four words, as the type of the field says.
--
-- Two facts come first. They hold at every point of such a trace.
--
-- 1. From its first transfer on a read of a line is granted as long as it is outstanding [under_way], and its reply stays
--    the same [reply-stays].
--    R: a transfer finds its read granted, by K18, and its end alone ends the grant. The memory that a reply looks at is
--    that before the first transfer.
--    CR: it isn't an answer under the grant. It would answer a snoop under the grant, and then the read hadn't begun
--    [SnoopsStand].
--    G: it is of another line, by K12. AR, AW: they have another name, by K4. RK and, at an ACE-Lite port, the last R end
--    the read.
--    M: it writes memory after the first transfer, where the reply doesn't look. Other events aren't looked at.
--
-- 2. While a read of a line is granted and no port has sent data under the grant, memory was the value at some point since
--    the G [MemorySince], or a port that holds the line dirty hasn't answered under the grant [DirtyUnanswered].
--    G: by `DirtyPlace` memory is the value or a port holds the line dirty, which can't have answered yet. There are no
--    passed data where no port has sent any, and a read of a line neither replaces the line nor gives it up.
--    M: on the line it is that of a memory update, by K24, and by K25 it writes its burst, which is the value. The granted
--    read has no passed data to write, and a write would want the grant for itself.
--    CR: a dirty port that answers the snoop of a read of a line sends data, by K15; then a port has sent.
--    MEM: nothing is granted yet (Trace/Opening).
--    WK, RK, S, D: a dirty port stays dirty, or its update ends, which has made memory the value [dirt_moves]. Other events
--    change neither.
--
-- At the first transfer the snoops are done, by K18. So each other port that holds the line has answered, and no port that
-- holds it dirty is left: memory was the value at a point since the G [memory_follows]. A read that causes no snoop is a
-- ReadNoSnoop; no port holds its line, by K8 [no_snoop_unheld]. Its own port holds I from its AR on, by K6
-- [empty_while_read].
--
-- The points are chosen as the trace grows; those of the reads so far, and of the reads under way, are [Follows].
--
-- 3. L: its point is the one before it. Its port's state isn't I, by K30, its word is that of the copy, by K31, and the copy
--    is the value.
-- 4. R, the first of a read of a line: its point is chosen now [first-point]. Where a port has sent data, the reply is its
--    copy at its answer, which was the value there [sent_value], and the answer came after the G. Else the reply is memory,
--    and the point is that of fact 2.
-- 5. R, by K20: its word is that of the reply, which is the value at the point of the read, by fact 1. Other events make no
--    read and leave the points: a value at an earlier point doesn't change.
-- 6. The points are in order [points-in_order]. From a load on: the point of a later load is later, and a later read has its
--    G later. From a read on: while it is outstanding its port holds I, and a load needs more, by K30; and the port issues
--    no other transaction of the line, by K5. So the first read has all its transfers, and thus its point, before the later
--    L or AR.

-- Outstanding reads: what was outstanding before, and that the port of a read of a line holds I.
pub mod Outstanding
-- Fact 1.
pub mod UnderWay
-- The G of a granted read, and the lines that were sent under the grant.
pub mod Sent
-- Fact 2, and memory once the snoops are done.
pub mod Memory
-- Fact 6.
pub mod Order
-- A read with a transfer stands at another place than a load and than a read without one.
pub mod Beats
-- Facts 3 and 5: the points in a longer trace, and that of a read chosen anew.
pub mod Points
-- Fact 4: the point of a read at its first transfer.
pub mod First
-- The law, by induction over the trace.
pub mod Law
