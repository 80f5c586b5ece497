-- Lines that come in word by word.
pub mod Arriving
-- The lines that a port holds.
pub mod Cached
-- What an event of a port does to the lines that it holds.
pub mod Change
-- What a port has done for its next operation.
pub mod Segment
-- The monitor of a port.
pub mod Monitor
-- What a master asks for.
pub mod AceRequests
-- The DVM Completes that a port owes.
pub mod Completions
-- The identifiers that the outstanding transactions of a port have.
pub mod Identifiers
-- What the master of an ACE port keeps, all in one.
pub mod Kept
-- What is looked for among the transactions for an operation.
pub mod Sought
-- The Syncs of a port.
pub mod Syncs
-- What a port is told of its exclusive stores.
pub mod Retiring
-- What ends an operation.
pub mod Closing
