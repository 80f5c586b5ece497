-- How far the next operation of a port has come, and that it goes on once its acts are made and nothing is outstanding.

-- Each act is the one whose turn it is.
pub mod NextActs
-- A port that has made one act of two.
pub mod OneOfTwo
-- Acts that issue transactions.
pub mod IssuedActs
-- Which act of a barrier a half is.
pub mod Halves
-- In a run a port has made both acts of a barrier or none.
pub mod BothHalves
-- Which act of a message a part is.
pub mod Parts
-- In a run a port has made both acts of a message of two parts or none.
pub mod BothParts
-- An operation whose acts are made, other than a Sync, retires.
pub mod Finished
-- The act of a Sync issues one.
pub mod SyncsIssued
-- A Sync that is issued has its AC DVM Complete, or retires.
pub mod SyncsEnd
-- So an operation moves on.
pub mod OperationsMove
-- That the AC DVM Complete of a Sync is answered.
pub mod AnsweredCompletions
-- A Sync without an answered AC DVM Complete is that of the next operation.
pub mod SyncsOfNext
-- Events that leave what a port needs to retire its operation.
pub mod Calm
-- Which these are.
pub mod CalmEvents
-- Bursts that end operations.
pub mod Endings
-- Step 4 ends the operation, if it can end.
pub mod Acknowledged
-- The events of the steps of masters are their own.
pub mod OwnEvents
-- Step 14 ends the operation, if it can end.
pub mod GoneOn
-- Step 1 ends a Sync, if it can end.
pub mod Answered
-- So in a run no operation of an ACE port is finished and not retired.
pub mod NeverFinished
-- An operation of an ACE port of which an act is made is under way.
pub mod ActsUnderWay
-- The OP and the AC DVM Complete with which such an operation ends are steps.
pub mod EndingSteps
