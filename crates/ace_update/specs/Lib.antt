-- The lines whose granted transactions have passed data, what the engine keeps of a trace, and what
-- the trait of engines asks of it.
pub mod EngineLaws
pub mod Passed
pub mod Update
