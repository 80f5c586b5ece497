-- Acknowledging.

-- The transaction that is to be acknowledged.
pub mod Due
-- An acknowledge and what ends the operation then.
pub mod Acknowledging
-- What an acknowledge ends without ending the operation is settled.
pub mod Settling
-- The acknowledge of a MakeUnique with its store.
pub mod Filling
-- Step 4.
pub mod StepFour
