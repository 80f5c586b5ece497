pub mod Looks
pub mod Rows
pub mod Texts
pub mod Words
