-- The operations of a port.
pub mod PortOperations
-- The data that the writes of operations carry.
pub mod Operations
-- What a master keeps of its port.
pub mod KeptPort
-- The events by which a port issues transactions.
pub mod Issues
-- What a port asks by.
pub mod Asking
-- What the operations of an ACE-Lite port ask for.
pub mod LiteRequests
-- What the master of an ACE-Lite port keeps, and what the trait of engines asks of it.
pub mod Lite
pub mod LiteLaws
-- The burst of write data that a port sends next.
pub mod Sending
-- The answer of a port to a snoop.
pub mod Answering
-- How a port acknowledges what is due.
pub mod Acknowledging
-- Events that what is kept of an ACE port may hear.
pub mod AceEvents
-- What the master of an ACE port keeps.
pub mod AcePort
-- What the master of an ACE port keeps, and what the trait of engines asks of it.
pub mod Ace
pub mod AceLaws
