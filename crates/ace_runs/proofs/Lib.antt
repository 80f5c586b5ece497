pub mod SoFar
pub mod Accepting
pub mod LongerPlans
pub mod Turns
pub mod Few
pub mod NeverStuck
pub mod Range
