mod Stays
mod Kept
pub mod Writes
mod Hearing
