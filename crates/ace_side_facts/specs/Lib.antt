pub mod Sayings
pub mod Facts
pub mod Gathering
pub mod Gathered
