mod Terms
-- Whoever holds a line is in its set.
-- The queue of the lines that a port may lose, and the room that there is for it.
pub mod Turns
pub mod Rooms
pub mod Issuers
pub mod Waiting
pub mod Snooped
pub mod Completed
-- What is kept of a port.
pub mod Ports
pub mod Watched
-- The sets, and their bits.
pub mod SetSteps
pub mod PortBits
-- Which ports the steps of a filtered run snoop.
pub mod KeptSnoops
-- The trace of a run before and after a turn, and what a filter hears of it.
pub mod Draining
