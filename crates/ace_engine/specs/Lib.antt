-- Which steps an engine takes and which events they give, and for which traces it may stand.
pub mod Engines
-- How much there can be in a plan.
pub mod Rooms
-- Events that come one after the other.
pub mod Heard
