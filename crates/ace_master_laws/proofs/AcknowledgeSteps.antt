-- The acknowledge that is due to a port is a step of it.

-- What the first response of a read may say.
pub mod Told
-- What a port may hold of the line of its read.
pub mod Held
-- There is a state in which the transaction may end.
pub mod EndStates
-- An acknowledge with that state breaks no rule.
pub mod Kept
-- Nor does what ends the operation then.
pub mod Closings
-- Nor does the store that a MakeUnique lacks.
pub mod Stores
-- So the acknowledge that is due is a step.
pub mod AcknowledgeLaw
