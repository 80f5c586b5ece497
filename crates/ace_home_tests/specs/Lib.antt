-- Worked traces.
pub mod Acknowledge
pub mod Worked
