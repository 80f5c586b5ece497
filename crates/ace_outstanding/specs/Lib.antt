pub mod Outstanding
pub mod Words
