-- What the master of an ACE port keeps stands after an event that isn't one of its own.
pub mod Heard
-- The events of a burst of an ACE port.
pub mod Bursts
-- A step of an ACE port, and what its master keeps then.
pub mod Turns
-- What ends the next operation of an ACE port is a step.
pub mod Ends
-- The transaction whose acknowledge is due.
pub mod Due
-- What the response to an exclusive store says.
pub mod Refusals
-- The next operation of an ACE port that asks for something.
pub mod Asks
-- What the master of an ACE port keeps after the burst by which the port asks.
pub mod Asked
-- A turn of the port is one of its master.
pub mod Turned
-- What a port puts where it acknowledges.
pub mod Acknowledges
-- The master of an ACE port that has one more operation.
pub mod Pushed
-- An operation that can't ask for an identifier.
pub mod Unasked
