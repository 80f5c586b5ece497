pub mod Lookups
pub mod LabelSteps
pub mod TimeSteps
pub mod GatheringSteps
pub mod Lines
