-- Lines that operations name, and lines that ports hold.

-- What a right plan says of an operation.
pub mod OfPlan
-- The transactions of a line are of one class.
pub mod Classes
-- The lines that a port holds are in a state other than I.
pub mod HeldLines
