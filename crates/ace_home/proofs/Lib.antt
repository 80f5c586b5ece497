-- Outstanding transactions: their places, and whether they are granted.
pub mod Outstanding
-- Which transactions wait for a line.
pub mod Waiting
-- The first event of each burst, where it breaks no rule.
pub mod FirstEvents
-- A header of version 1 has few ports.
pub mod FewPorts
-- The steps in which only ports of sets are snooped.
pub mod Among
-- A run in which only ports of sets are snooped goes on.
pub mod GoesOnAmong
-- Snoops for one transaction, one after the other.
pub mod Snoops
-- The first of the steps that are due.
pub mod Firsts
-- What serves a transaction is a step.
pub mod Serving
-- The shares may hear the next event.
pub mod Hearing
-- What the engine keeps, as its looks see it.
pub mod Kept
-- The next transfer of a read.
pub mod Transfers
-- What a port has to acknowledge, and what it holds.
pub mod Ending
-- Lines whose granted transactions are held up.
pub mod HeldUp
-- Sets of ports.
pub mod PortBits
-- What an event leaves as it is.
pub mod Untouched
-- Transactions behind older ones.
pub mod Later
-- Ports at rest.
pub mod AtRest
