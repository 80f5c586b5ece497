-- What entries store, and what the lines hold after them.
pub mod Stored
-- Which lines the ports have reserved after them, and exclusive stores.
pub mod Reserved
-- With which outcomes a call ends.
pub mod Ends
-- The history of a trace, and which histories are legal.
pub mod Histories
-- The newest entry, as it is read off the end of a trace.
pub mod Newest
-- Which lines the ports watch at a point of a trace.
pub mod Watched
-- Runs between two calls.
pub mod Settled
-- The plan and the entries that the rows speak of.
pub mod Rows
