pub mod Written
pub mod ReaderLemmas
pub mod ConvertLemmas
pub mod FormReadings
pub mod OneConversion
