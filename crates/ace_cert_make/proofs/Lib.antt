-- The place of the first answer with data.
pub mod Sent
-- The value at the place of a read that no port sends.
pub mod Memory
-- The place of a read is one of its points.
pub mod First
-- Which reads get a place.
pub mod PlacedReads
-- All reads follow the stores at these places.
pub mod Law
-- What is kept of a line that isn't known, and of any line after an event.
pub mod Unknown
pub mod Steps
pub mod Heard
-- The read that a beat places.
pub mod Placed
-- What is listed is a certificate.
pub mod Made
-- The points of a trace.
pub mod Points
-- A list of entries.
pub mod Listing
