-- The transactions of DVM: each that is outstanding moves on, and a DVM Complete that is owed is issued.

-- DVM Completes, and parts that every other ACE port has answered, have their responses.
pub mod DvmResponses
-- Bursts that issue whole messages.
pub mod WholeIssues
-- Step 14 alone issues parts of messages.
pub mod MessageSteps
-- It issues whole messages.
pub mod IssuedMessages
-- A part that comes next is forwarded.
pub mod PartsGoOn
-- So no first part waits for its second.
pub mod WholeMessages
-- An outstanding message moves on.
pub mod MessagesMove
-- A DVM Complete that is owed is issued.
pub mod OwedCompletions
-- Complete messages were answered by all.
pub mod AnsweredMessages
-- A message was forwarded in all its parts or in none.
pub mod WholeOrNone
-- A Sync that is complete has its AC DVM Complete.
pub mod SyncsComplete
-- What a transaction is.
pub mod Sorts
-- So a DVM transaction that is outstanding, and a DVM Complete that is owed, have a step.
pub mod DvmSteps
-- The DVM Complete that is owed may be issued.
pub mod CompletionsIssued
