-- Lines that a port holds, and the states in which its transactions end.
pub mod Lines
-- How far the operations of a port have come, and what ends them.
pub mod Progress
-- Answering snoops, and sending write data.
pub mod Answers
-- Acknowledging.
pub mod Acknowledges
-- Going on.
pub mod GoesOn
-- So a step of a master keeps a run legal.
pub mod MasterLaw
-- The acknowledge that is due is a step.
pub mod AcknowledgeSteps
