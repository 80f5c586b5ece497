-- The first grant of the newest read of a name.
pub mod Grants
-- What the tests of events say of the reads of a trace.
pub mod Passing
-- Elements of lists by their places.
pub mod Elements
-- Which events are reads.
pub mod ReadEvents
-- The tests of a certificate pass exactly where it is one.
pub mod Exact
pub mod WalkKeys
pub mod WalkNames
pub mod WalkLines
pub mod WalkMarks
pub mod WalkBursts
pub mod WalkChanges
pub mod WalkReads
pub mod WalkEnds
pub mod WalkHear
