-- Lines that a port holds, and the states in which its transactions end.

-- How many lines a port holds.
pub mod HeldLines
-- Events that bring no line in and make none dirty.
pub mod Gentle
-- The states in which a master ends its transactions.
pub mod EndChoices
-- The interconnect refused an exclusive store that failed.
pub mod Refused
