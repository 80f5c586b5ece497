-- A barrier orders (law `barriers_order`, fact `BarrierHolds`): before a transaction with bar 0 is granted after a barrier
-- pair of its port, every line transaction of the port with bar 0 that was issued before the pair has had its order point,
-- and is complete if the barrier is a synchronisation barrier (Arm IHI 0022E, C8).
--
-- Look at the G. By K35 each pair of the port whose place is before the granted transaction is complete; so its half on
-- the read channel has had its R. Go back to that R. By K34 both halves had been issued, so that it was this pair, and
-- each earlier line transaction with bar 0 had come as far as the barrier asks: to its order point, or to its end for a
-- synchronisation barrier. What a transaction has had it keeps, so it has had it at the G too.
--
-- Three things make this an argument:
--
-- - **A pair keeps its number** (`pairs-grown`, `half-number`). The k-th half of a channel stays the k-th as the trace
--   grows, whatever comes; only an AR or AW adds one, at the end. So the pair that K34 spoke of at the R is the one that
--   K35 speaks of at the G.
-- - **The transactions before the pair were there at its R.** Both halves had been issued by then, so everything with a
--   smaller place had been.
-- - **A complete line transaction has had its order point** (`completed-ordered`), which a synchronisation barrier needs
--   as well. A read completes by an R, for which it is granted (K18): its G has come, and that is its order point. A
--   write completes by its B, which comes after its M (K26) but for an Evict, which has no order point. The M of a
--   memory update is its order point; any other write was granted at its M (K24).

-- The halves of a port and its pairs keep their numbers.
pub mod Pairs
-- A complete line transaction has had its order point.
pub mod OrderPoints
-- From the G back to the R of the barrier.
pub mod Law
