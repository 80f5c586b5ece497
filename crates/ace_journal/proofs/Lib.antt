pub mod Hearing
pub mod RowSteps
