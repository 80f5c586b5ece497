-- The events of a run have numbers that their records can hold.

-- Ports of version 1.
pub mod FewPorts
-- Codes, by the rules.
pub mod Codes
-- Identifiers and responses, by the steps.
pub mod LowSteps
-- So each event is in range.
pub mod EachEvent
