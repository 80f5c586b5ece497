pub mod Asked
pub mod Choosing
pub mod Following
pub mod Numbered
pub mod States
pub mod Versions
