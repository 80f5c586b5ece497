-- What an operation asks for that can't end fits its port, the state of its line and the line.

-- An operation that can't end.
pub mod Ends
-- An operation that asks, and what it is for a request to fit.
pub mod Asking
-- Loads and reads ahead.
pub mod Fetching
-- Stores.
pub mod Storing
-- Updates of memory and accesses past the cache.
pub mod GivingUp
-- Accesses without snoops.
pub mod Unsnooped
-- DVM messages.
pub mod Ordering
-- So each operation.
pub mod RequestsFit
