-- Answering snoops, and sending write data.

-- The answer to an AC DVM Complete ends the operation of its Sync.
pub mod Syncs
-- Steps 1 and 2.
pub mod Answering
