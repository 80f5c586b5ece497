pub mod Letters
pub mod RowSteps
