-- What a port puts that goes on with its next operation breaks no rule.

-- The reads, the writes and the silent transitions that it asks by.
pub mod AsksKept
-- The parts of DVM messages.
pub mod MessagesKept
-- The halves of barriers.
pub mod BarriersKept
-- So the bursts of a request that fits.
pub mod BurstsKept
-- The DVM Complete that a port owes.
pub mod CompletionsKept
-- What ends the operation.
pub mod ClosingKept
-- What asks only leaves what lines give.
pub mod CalmBursts
