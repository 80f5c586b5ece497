pub mod Bursts
pub mod Charts
pub mod Choice
pub mod Fed
pub mod Looks
pub mod Rows
pub mod Selected
pub mod Values
