-- The worked traces are ones for which an engine may stand.
pub mod Worked
-- So is that of a write that isn't acknowledged.
pub mod AcknowledgeWorked
