-- A worked plan of one ACE port.
pub mod AceWorked
-- Worked traces of an ACE-Lite port.
pub mod LiteWorked
