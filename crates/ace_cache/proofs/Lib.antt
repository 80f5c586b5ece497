pub mod Distinct
pub mod Kept
pub mod Looks
pub mod Victims
