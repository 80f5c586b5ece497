pub mod Events
pub mod Members
pub mod Objects
pub mod Outcomes
