-- The steps for one transaction, what the engine keeps of a trace, and what the trait of engines
-- asks of it.
pub mod Among
pub mod EngineLaws
pub mod HeldUp
pub mod Home
pub mod Resting
pub mod Services
pub mod Turns
