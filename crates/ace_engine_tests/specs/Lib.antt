-- Worked traces of the engine of memory updates, and of the one of barriers and DVM.
pub mod Update
pub mod Order
pub mod Waiting
