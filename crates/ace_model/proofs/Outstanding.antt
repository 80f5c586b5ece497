-- The outstanding transactions as lists: what a fold keeps of them, and what the looks at the whole trace say by them.
--
-- The transactions of a trace stand in a list, in order (`transactions`). A look that asks for some transaction of the trace is
-- a look at that list. After an event of an accepted trace a transaction is outstanding where it was so before and doesn't end
-- by the event, or where the event issues it. Under a name there is one at most, and a port has one at most on a line. What the
-- last transaction of a name has had is what the looks by name say of it.

-- Lists of which some elements are kept.
pub mod Lists
-- Looks at all transactions as looks at their list.
pub mod Issued
-- What is outstanding after an event.
pub mod Steps
-- What a transaction has had, by its name.
pub mod Names
-- What waits for its acknowledge, and that what is no longer outstanding is complete.
pub mod Waiting
-- A look that finds the only one.
pub mod Only
