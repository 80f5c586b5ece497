-- The worked traces are ones for which an engine may stand.
pub mod UpdateWorked
pub mod OrderWorked
pub mod WaitingWorked
