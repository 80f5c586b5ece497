pub mod Places
pub mod Tracks
pub mod Changes
pub mod Next
pub mod Stands
