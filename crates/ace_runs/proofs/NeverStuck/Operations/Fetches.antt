-- A read ahead fetches its line by reads of its kind alone.

-- Step 14 issues those that the next operation asks for.
pub mod ReadsAsked
-- So those of a read ahead are of its kind.
pub mod ReadsAhead
