-- A trace that follows a plan so far and is lean does so with a longer plan.
pub mod LongerPlans
-- A port for which there is a step is enabled by it.
pub mod EnabledBySteps
-- An element of a burst is one of its array.
pub mod Taken
-- A trace for which an engine may stand, with one more event.
pub mod LegalSteps
-- What the interconnect gives obeys any plan and is lean.
pub mod OfInterconnect
-- What is kept of the ports has room for what comes.
pub mod Rooms
-- An element of a list that tells of the elements of another.
pub mod Listed
-- The outstanding transactions of a port, and whether there is a step that serves one.
pub mod Pending
-- A list of events, one after the other.
pub mod Heard
-- No event is one that steps of two engines give.
pub mod OwnEvents
