-- Places of a list after a write, and engines that hear one after the other.
pub mod Places
-- Events that come one after the other.
pub mod Between
-- What engines have heard once they heard one burst and then another.
pub mod HeardBursts
-- The steps of a master give its own events.
pub mod MasterEvents
-- The steps of the home and of the engine of memory updates give their own events.
pub mod LineEvents
-- The step that answers a barrier.
pub mod Barriers
-- The steps of the engine of barriers and DVM give its own events.
pub mod OrderEvents
-- What a step of one engine puts is nothing that another gives.
pub mod Given
-- A step of some numbers is a step.
pub mod Taken
-- A run with more events at its end.
pub mod Continued
-- Turns of ports, one after the other.
pub mod TurnsBy
-- What is left to do in a run.
pub mod WhatIsLeft
-- The engines after a step of one of them.
pub mod Moves
-- What a master does as an engine of that kind.
pub mod PortMasters
-- The masters of the ports of a script.
pub mod ScriptMasters
-- The parts of a run whose plan grows.
pub mod LongerRuns
-- What is kept of idle ports, where there is none.
pub mod NoneIdle
