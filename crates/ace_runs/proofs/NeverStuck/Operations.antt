-- The next operation of a port goes on by step 14: where nothing of the port is outstanding it can, and where it can there is a burst for it that
-- breaks no rule.

-- Nothing of the port is outstanding.
pub mod Idle
-- An identifier is free.
pub mod Identifiers
-- There is a burst for what the operation asks.
pub mod Asks
-- An operation that has made no act goes on by step 14.
pub mod OperationsGoOn
-- The lines that operations name and that ports hold.
pub mod Lines
-- The kinds of reads with some codes.
pub mod Places
-- The transactions of a segment.
pub mod SegmentOf
-- A read ahead fetches by its kind alone.
pub mod Fetches
-- What the operation asks for fits.
pub mod Fits
-- What fits breaks no rule.
pub mod Kept
-- So where step 14 is enabled it has a burst that breaks no rule.
pub mod OperationSteps
