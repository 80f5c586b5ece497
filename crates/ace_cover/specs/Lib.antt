pub mod Counts
pub mod Following
pub mod GroupViews
pub mod Groups
pub mod Json
pub mod Names
pub mod Tables
pub mod Tallies
