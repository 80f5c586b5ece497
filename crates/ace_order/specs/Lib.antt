-- What the engine keeps of a trace, how messages are forwarded, and what the trait of engines asks
-- of it.
pub mod EngineLaws
pub mod Messages
pub mod Order
pub mod Quiet
pub mod Senders
pub mod Waiting
