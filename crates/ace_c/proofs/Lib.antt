pub mod Ends
pub mod Feeding
pub mod Headers
pub mod Naming
pub mod Readdressed
pub mod Steps
pub mod Sound
