-- A Sync waits for all (law `a_sync_waits_for_all`, fact `DvmHolds`): at each AC DVM Complete to a port, every other ACE
-- port has answered the last Sync of that port and every part of the DVM messages that the port issued before it, and has
-- issued a DVM Complete after its answer to the Sync (Arm IHI 0022E, C12).
--
-- By K39 the Sync is complete at that AC, and each other ACE port, for which it was the n-th Sync, has issued at least n
-- DVM Completes. From there, for one such port, of which this is used throughout: each AC DVM Message that forwards a part
-- forwards the next of the parts for the port (`forwarded`, by its definition), and a port answers its snoops in order, so
-- that what it has answered is the first so many of the parts for it (`answered-first`). A longer trace adds to the end of
-- both lists.
--
-- - **It has answered the Sync** (`complete_part-answered`). A part is a read, so it was completed by an R, and at that R
--   every other ACE port had answered it (K37).
-- - **It has answered every earlier part of the port** (`earlier_answered`). Such a part was for this port when the Sync was
--   issued, or else it was a first part that waited for its second (`parts-cases`); then the Sync would be the second part,
--   and no Sync. What was for the port by then came before the Sync, and the answered parts reach the Sync, so they have all
--   of it (`answered-before`).
-- - **It has issued a DVM Complete after its answer** (`sync-completed`). By K38 each DVM Complete of a port comes where
--   it has answered more Syncs than it has issued DVM Completes (`IsOwed`); an AR is the only event that issues one, and
--   a longer trace keeps it. Take the n-th: when it was issued, the port had answered at least n Syncs. By K9 a Sync has
--   one part, so that it is for the port next after what was for it before, which has n - 1 Syncs (`sync-next`). The parts
--   that it had answered have n, so they reach this one.

-- The parts for a port: their places, and what they are at an earlier point.
pub mod Parts
-- What a port has forwarded to it, and has answered, is the first of the parts for it.
pub mod Forwarding
-- A complete part was answered by every other ACE port (K37).
pub mod Answered
-- A Sync has one part (K9).
pub mod Syncs
-- A DVM Complete comes after the answer to its Sync (K38).
pub mod Completed
-- At an AC DVM Complete (K39).
pub mod Law
