-- What the steps of a run keep, and that so a run never gets stuck. What is left to do in a run moves on, sort by sort: an unanswered snoop; a
-- transaction that is complete, a memory update, an Evict or granted; one that waits for its grant; a barrier or a DVM transaction; and where nothing
-- is outstanding, an operation.

-- What each step gives.
pub mod Steps
-- Data are whole between the steps of a run.
pub mod Data
-- Memory updates and Evicts move on.
pub mod Updates
-- A snoop that can't be answered yet waits for a memory update.
pub mod Rows
-- So an unanswered snoop has a step.
pub mod Snoops
-- A complete transaction is to be acknowledged.
pub mod Acknowledges
-- So a port with a complete transaction that is outstanding is enabled.
pub mod Complete
-- A granted read moves on once its snoops are done.
pub mod Reads
-- A run forwards DVM messages whole, so a snoop of a line may come.
pub mod Forwarding
-- Where no AC is unanswered, an outstanding transaction that is complete, a memory update, an Evict or granted moves on, or one that it waits for.
pub mod Transactions
-- Barriers: none holds back a grant, so that what waits for one moves, and each is answered.
pub mod Barriers
-- The transactions of DVM move on.
pub mod Messages
-- So a barrier or a DVM transaction that is outstanding moves on, or what it waits for, and a DVM Complete that is owed is issued.
pub mod OrderMoves
-- An operation whose acts are made, with nothing outstanding, retires or has its Sync completed.
pub mod Phases
-- Operations: where nothing is outstanding, the next operation of a port goes on.
pub mod Operations
-- So a run that isn't done, with nothing outstanding, has an operation that moves on.
pub mod OperationsMove
-- So a run that isn't done has a port that is enabled.
pub mod RunsGoOn
