-- Going on.

-- What a port issues for its next operation.
pub mod Issuing
-- An operation that doesn't wait.
pub mod Ready
-- What a port asks for by one event.
pub mod Asks
-- Writes and silent transitions by which an operation goes on.
pub mod Writes
-- Two acts at once.
pub mod Pairs
-- What each operation asks for.
pub mod Requests
-- Operations of two acts.
pub mod TwoActs
-- A DVM Complete, and when an operation is ready.
pub mod GoingOn
