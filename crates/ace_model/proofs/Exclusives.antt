-- An exclusive store is exclusive (law `exclusive_store_is_exclusive`, fact `ExclusiveHolds`): between a D with x 1 and
-- the last L with x 1 of its port no other port has stored to the line (Arm IHI 0022E, C9).
--
-- The fact that holds at every point: **where a port is monitored for a line (`is_monitored`), no other port has stored to
-- the line since the last exclusive load of the port (`is_undisturbed`)**. By K33 the port of a D with x 1 is monitored,
-- so the law follows at once.
--
-- - An L with x 1 of the port begins anew: it sets the monitor, and nothing has come since.
-- - A D of another port to the line ends the monitor. By K32 that port holds the line in a unique state, or has made it
--   by a MakeUnique that is complete; either way every other port holds I (the law of the holders), and a port that
--   holds I is not monitored.
-- - The same for an M that stores to the line, of a WriteUnique, WriteLineUnique or WriteNoSnoop, and for the R of a
--   MakeInvalid of the line: at it no port holds the line (`all_empty`).
-- - A D with x 1 of the port itself ends its monitor. Any other event at most ends it, by taking the line to I, and
--   stores nothing for another port.

-- The monitor, event by event.
pub mod Law
