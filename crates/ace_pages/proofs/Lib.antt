pub mod Lengths
pub mod OtherWords
pub mod Steps
pub mod Telling
