-- In a run of calls the value of a line changes at a D alone.
pub mod PlainEvents
-- The operations of a plan with one call more.
pub mod OneMore
-- A history with one entry more.
pub mod Longer
-- What the call has done at a point of its run, and what an event makes of it.
pub mod Stages
-- The acts of a call: what a load gets, and what a store leaves.
pub mod Acts
-- What each event makes of a call.
pub mod ByEvent
-- Exclusive stores of histories.
pub mod Exclusive
-- Where a port makes an exclusive store, it watches the line.
pub mod Watching
-- The outcome of a call is one of its operation's.
pub mod Ending
-- From one settled point to the next.
pub mod OneCall
-- The words of a line after stores of words.
pub mod Words
-- Reading events from the newest on.
pub mod Reading
