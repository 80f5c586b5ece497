pub mod Places
pub mod Reads
pub mod Responses
pub mod Snoops
pub mod Writes
