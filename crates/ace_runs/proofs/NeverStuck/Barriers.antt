-- Barriers of a run: to which operation one belongs, that none holds back a grant, so that what waits for one moves, that the halves of one go
-- together, and that it is answered.

-- What a half of a barrier is and isn't.
pub mod Halves
-- Which acts are barriers.
pub mod Acts
-- An outstanding barrier belongs to its port's next operation.
pub mod OfNext
-- What ends an operation and what acknowledges issues nothing.
pub mod Quiet
-- What step 14 issues.
pub mod Asks
-- The bursts of step 14.
pub mod GoesOn
-- Responses.
pub mod Responses
-- What a step issues and answers.
pub mod StepShape
-- Barriers before a line transaction are complete.
pub mod DoneBefore
-- So none holds back a grant.
pub mod HoldNone
-- What holds of each transaction of a trace.
pub mod EachIssued
-- So where no transaction is granted, one that waits moves.
pub mod WaitingMove
-- What leaves the halves of barriers together.
pub mod Together
-- Both halves are issued at once.
pub mod BothIssued
-- And both are answered at once, so they are together in each run.
pub mod BothAnswered
-- The pair of a half that isn't complete.
pub mod OpenPairs
-- So a barrier is answered.
pub mod Answered
-- By both its responses.
pub mod AnswerKept
