pub mod Asked
pub mod Points
pub mod Same
pub mod Shown
pub mod Situations
