pub mod Walks
pub mod Placed
pub mod Kept
pub mod Lends
