-- What each step gives, and which steps a port is enabled by.

-- What passes of each element of a list.
pub mod Lists
-- Events that are the same are equal but for their lines.
pub mod SameEvents
-- Bursts of the same events.
pub mod SameBursts
-- What ends an operation, and what acknowledges.
pub mod Concluding
-- What an operation asks for.
pub mod Asking
-- Which events the steps of masters give.
pub mod StepEvents
-- The steps that serve a transaction.
pub mod Serving
-- What a step puts of write data and of writes of memory.
pub mod StepShapes
-- A step is one of masters, or gives nothing but write data and events of the interconnect.
pub mod MasterSteps
-- Steps other than step 14 issue no read.
pub mod SilentSteps
-- A port enabled by some steps is enabled by more.
pub mod EnabledBy
