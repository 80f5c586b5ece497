-- What an event of each kind asks of what is kept of the system, and what it leaves of it.
pub mod Grants
-- What an answer to a line transaction leaves.
pub mod LineResponses
-- Which rules an R or B may break, and what the completion of a transaction leaves.
pub mod Responses
-- What a line snoop leaves.
pub mod LineSnoops
-- What an AC of DVM asks and leaves.
pub mod MessageSnoops
-- What an RK or WK moves.
pub mod Acknowledges
-- What the AR of a line read moves.
pub mod ReadAddresses
-- What the AR of a DVM Message or a DVM Complete asks and leaves.
pub mod MessageAddresses
-- The AR or AW that issues half of a barrier.
pub mod BarrierAddresses
-- What the AW of a line write asks and leaves.
pub mod WriteAddresses
-- What a CR leaves.
pub mod SnoopAnswers
