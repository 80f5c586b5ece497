-- A run forwards each DVM message to a port in all its parts or in none: step 11 puts the parts next to each other. So between steps no second
-- part is the next one for a port, and a snoop of a line may come.

-- A first part that waits for its second.
pub mod Waiting
-- What comes next for a port begins a message.
pub mod NextMessage
-- Only step 11 forwards parts.
pub mod Steps
-- The parts that a burst forwards.
pub mod Bursts
-- Step 11 forwards whole messages, and so each run does.
pub mod Whole
