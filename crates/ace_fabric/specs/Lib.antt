-- How engines take part in a run.
pub mod Parts
-- A run as it is seen, and what is kept of it.
pub mod Runs
-- What is left to do in a run.
pub mod Left
-- The master of a port, of either kind.
pub mod PortMaster
-- The start of the run of a script.
pub mod System
-- The ports of which it is known that they aren't enabled.
pub mod Idle
