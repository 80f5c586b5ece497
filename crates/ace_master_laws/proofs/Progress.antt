-- How far the operations of a port have come, and what ends them.

-- What a gentle event leaves of how far an operation has come.
pub mod UnderWay
-- Events that obey the plan and stay lean.
pub mod Wells
-- What ends an operation obeys the plan and stays lean.
pub mod Endings
-- What the burst of a master's step is.
pub mod Turns
-- How far the operations of a port have come, event by event.
pub mod Come
-- What ends an operation leaves nothing of it.
pub mod Ended
