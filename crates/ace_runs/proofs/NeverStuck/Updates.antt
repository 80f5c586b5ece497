-- Memory updates and Evicts: each moves on, or waits for the passed data of its line.

-- An Evict that isn't complete has its response.
pub mod EvictsMove
-- A memory update with no passed data before it moves on.
pub mod UpdatesMove
-- Beside a memory update no other port has passed the line on.
pub mod BesideUpdates
-- So a memory update moves on, or waits for passed data.
pub mod UpdatesOrGranted
