-- What each event does to the lines with passed data.
pub mod PassedData
-- Lists of lines.
pub mod LineLists
-- The list of the lines with passed data after an event.
pub mod PassedLists
-- When an outstanding write may have its burst of step 3.
pub mod DueWrites
-- There is room for one more line with passed data.
pub mod Rooms
-- The burst of a write that may have it is a step.
pub mod UpdateSteps
-- Neither a memory update nor an Evict has an AWSNOOP below 2.
pub mod LowCodes
